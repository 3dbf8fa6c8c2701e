use Rattle.std.proofs.Common.{Bool, List, refl, subst, sym}
use Rattle.decision_graphs.specs.Reaching.{IsSet}
use Rattle.commissioning_tests.proofs.CoverLemmas.{more_from, added_turn}
use Rattle.commissioning_tests.proofs.cover.add_unless_shown.Goals as goal

pub returns-clause-more : goal.returns-clause-more
returns-clause-more c =
    more_from c.args.walked.now.station.now c.args.walked.now.operations.now c.deref-3.result.now
    c.args.found.now.positions.items c.asked_of.new.found.positions.items c.add_position.new.found.positions.items
    c.args.closed.items c.in_ok-asked.ensures.same c.in_ok-add_position.ensures c.requires.positions

pub returns-clause-shown : goal.returns-clause-shown
returns-clause-shown c op at turning =
    added_turn c.args.walked.now.station.now c.args.walked.now.operations.now c.deref-3.result.now
    c.asked_of.new.found.positions.items c.add_position.new.found.positions.items c.args.closed.items
    c.in_ok-add_position.ensures c.args.walked.now.number c.args.switch.0 op at c.requires.switch
    (subst (λ (l : List Bool). IsSet l c.args.switch.0) (sym c.deref-3.ensures.value)
    (c.in_ok-asked.ensures.kept c.args.switch refl c.requires.switch)) turning
