use Rattle.std.proofs.Common.{List, Bool, Some, subst, sym}
use Rattle.std.proofs.lemmas.Option.{get_or_from_slice_get, slice_get_within}
use Rattle.ilk_base.specs.declared.words.Op.{Op}
use Rattle.station_graph.specs.Alike.{IsVector}
use Rattle.station_graph.specs.Connection.{a_switch}
use Rattle.step_graphs.specs.Steps.{TakesIn}
use Rattle.dependence_search.specs.RuleWalks.{IsRuleWalk}
use Rattle.station_graph.specs.CentralRules.{Breaks}
use Rattle.commissioning_tests.proofs.cover.cover_rule.Goals as goal

pub bounds-walked-walked : goal.bounds-walked-walked
bounds-walked-walked c =
    let w = c.requires.walked in
    slice_get_within c.args.walked.now.operations.now c.args.walked.now.number w.op w.at

pub find_breach-requires-clause-steps : goal.find_breach-requires-clause-steps
find_breach-requires-clause-steps c = c.requires.walked.steps

pub find_breach-requires-clause-moved : goal.find_breach-requires-clause-moved
find_breach-requires-clause-moved c =
    let w = c.requires.walked in
    subst (λ (x : Op). TakesIn c.args.walked.now.steps.now.old_steps.items c.args.walked.now.place
    (a_switch x.switch.0))
    (sym (get_or_from_slice_get c.args.walked.now.operations.now c.args.walked.now.number w.op _ w.at)) w.moved

pub find_breach-requires-clause-walk : goal.find_breach-requires-clause-walk
find_breach-requires-clause-walk c =
    let w = c.requires.walked in
    subst (λ (x : Op). IsRuleWalk c.args.walked.now.station.now c.args.walked.now.steps.now.old_steps.items
    c.args.walked.now.place x.switch.0 c.args.walked.now.walk.now.graph c.args.walked.now.walk.now.codes.items)
    (sym (get_or_from_slice_get c.args.walked.now.operations.now c.args.walked.now.number w.op _ w.at)) w.walk

pub returns-in_ok-add_breach-in-Some-clause-shown : goal.returns-in_ok-add_breach-in-Some-clause-shown
returns-in_ok-add_breach-in-Some-clause-shown c v op at vector breaks =
    let found = rw c.in-Some.is at c.in_ok-breach.ensures in
    c.in_ok-add_breach-in-Some.ensures.shown c.args.rule op at
    (subst (λ (x : Op). Breaks c.args.walked.now.station.now c.in-Some.closed.items x (Some c.args.rule))
    (get_or_from_slice_get c.args.walked.now.operations.now c.args.walked.now.number op _ at) found.1)

pub returns-in-None-clause-shown : goal.returns-in-None-clause-shown
returns-in-None-clause-shown c v op at vector breaks =
    let none = rw c.in-None.is at c.in_ok-breach.ensures in
    absurd (subst (λ (x : Op). (v : List Bool) → IsVector c.args.walked.now.station.now v →
    ¬ Breaks c.args.walked.now.station.now v x (Some c.args.rule))
    (get_or_from_slice_get c.args.walked.now.operations.now c.args.walked.now.number op _ at) none v vector breaks)
