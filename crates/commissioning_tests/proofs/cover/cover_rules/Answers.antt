use Rattle.ilk_base.specs.declared.words.Rule.TheVariants.{R1, R2, R3}
use Rattle.commissioning_tests.proofs.CoverLemmas.{rule_grows}
use Rattle.commissioning_tests.proofs.cover.cover_rules.Goals as goal

pub returns-clause-shown : goal.returns-clause-shown
returns-clause-shown c R1 v op at vector breaks =
    rule_grows c.cover_rule-2.new.found.positions.items c.cover_rule-3.new.found.positions.items c.args.walked.now.number R1
    c.in_ok-cover_rule-3.ensures.more.grows
    (rule_grows c.cover_rule.new.found.positions.items c.cover_rule-2.new.found.positions.items c.args.walked.now.number R1
    c.in_ok-cover_rule-2.ensures.more.grows (c.in_ok-cover_rule.ensures.shown v op at vector breaks))
returns-clause-shown c R2 v op at vector breaks =
    rule_grows c.cover_rule-2.new.found.positions.items c.cover_rule-3.new.found.positions.items c.args.walked.now.number R2
    c.in_ok-cover_rule-3.ensures.more.grows (c.in_ok-cover_rule-2.ensures.shown v op at vector breaks)
returns-clause-shown c R3 v op at vector breaks = c.in_ok-cover_rule-3.ensures.shown v op at vector breaks
