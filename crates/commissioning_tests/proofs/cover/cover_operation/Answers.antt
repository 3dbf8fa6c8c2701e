use Rattle.std.proofs.Common.{subst}
use Rattle.std.proofs.lemmas.Option.{slice_get_within}
use Rattle.ilk_base.specs.declared.words.Op.{Op}
use Rattle.dependence_search.specs.RuleWalks.{IsRuleWalk}
use Rattle.commissioning_tests.proofs.CoverLemmas.{turn_grows, same_op}
use Rattle.commissioning_tests.proofs.cover.cover_operation.Goals as goal

pub returns-clause-covered : goal.returns-clause-covered
returns-clause-covered c =
    let w = c.requires.walked in
    record {
      answers = λ op at v vector.
          c.walks_answer.ensures c.args.walked.now.station.now c.args.walked.now.steps.now.old_steps.items
          c.args.walked.now.steps.now.new_steps.items c.args.walked.now.place op c.args.walked.now.walk.now.graph
          c.args.walked.now.walk.now.codes.items v c.is_station.ensures w.steps.steps
          (slice_get_within c.args.walked.now.steps.now.old_steps.items c.args.walked.now.place w.moved.step w.moved.at)
          (subst (λ (x : Op). IsRuleWalk c.args.walked.now.station.now
          c.args.walked.now.steps.now.old_steps.items c.args.walked.now.place x.switch.0
          c.args.walked.now.walk.now.graph c.args.walked.now.walk.now.codes.items)
          (same_op c.args.walked.now.operations.now c.args.walked.now.number w.op op w.at at) w.walk) vector;
      turns = λ s op at here dep.
          turn_grows c.cover_turns.new.found.positions.items c.cover_rules.new.found.positions.items c.args.walked.now.number s
          c.in_ok-cover_rules.ensures.more.grows (c.in_ok-cover_turns.ensures.shown s op at here dep);
      rules = c.in_ok-cover_rules.ensures.shown;
    }
