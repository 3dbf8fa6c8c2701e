use Rattle.std.proofs.Common.{◌≡◌, ℕ, Bool, List, length, map, take, sym, ap, ◌∙◌, subst, arith}
use Rattle.std.proofs.lemmas.List.{take_all}
use Rattle.step_graphs.specs.Moved.{AreGiven}
use Rattle.station_joints.specs.Chosen.{closed_at}
use Rattle.dependence_search.proofs.DependLemmas.{listed}
use Rattle.dependence_search.proofs.ChosenLemmas.{closed_more, closed_long, closed_given, places_within}
use Rattle.dependence_search.proofs.position.position_of.Goals as goal

pub is_closed-requires-clause-place : goal.is_closed-requires-clause-place
is_closed-requires-clause-place c =
    let places = c.args.steps.now.old_places.items in
    places_within c.args.station.now c.args.steps.now.old_steps.items places c.args.choices.now c.requires.steps.old_at
    c.requires.count c.loop-i.i c.index-place.result.now
    (listed places c.loop-i.i c.from.result c.index-place.result.now (length c.args.station.now.switches)
    c.from.ensures c.index-place.ensures (omega (arith, c.loop-i-test.true, c.switch_count-i-end.ensures))
    c.requires.steps.old_at.len)

pub loop-i-preserved : goal.loop-i-preserved
loop-i-preserved c =
    let places = c.args.steps.now.old_places.items in
    c.in_ok-push.ensures.items
    ∙ closed_more c.args.moved c.args.choices.now places c.loop-i.closed.items c.loop-i.i c.index-place.result.now
    c.is_closed.result
    (listed places c.loop-i.i c.from.result c.index-place.result.now (length c.args.station.now.switches)
    c.from.ensures c.index-place.ensures (omega (arith, c.loop-i-test.true, c.switch_count-i-end.ensures))
    c.requires.steps.old_at.len) c.loop-i.invariant c.is_closed.ensures

pub returns-clause-vector : goal.returns-clause-vector
returns-clause-vector c =
    let places = c.args.steps.now.old_places.items in
    ap length (c.loop-i.invariant ∙ ap (map (closed_at c.args.moved c.args.choices.now)) (take_all c.loop-i.i places
    (omega (arith, c.loop-i-test.false, c.switch_count-i-end.ensures, c.requires.steps.old_at.len))))
    ∙ closed_long c.args.station.now c.args.steps.now.old_steps.items c.requires.steps.steps.old_all places
    c.requires.steps.old_at c.args.moved c.args.choices.now

pub returns-clause-given : goal.returns-clause-given
returns-clause-given c =
    let places = c.args.steps.now.old_places.items in
    let is : c.loop-i.closed.items ≡ map (closed_at c.args.moved c.args.choices.now) places =
    c.loop-i.invariant ∙ ap (map (closed_at c.args.moved c.args.choices.now)) (take_all c.loop-i.i places
    (omega (arith, c.loop-i-test.false, c.switch_count-i-end.ensures, c.requires.steps.old_at.len))) in
    subst (λ (l : List Bool). AreGiven c.args.steps.now.old_steps.items c.args.moved l c.args.choices.now) (sym is)
    (closed_given c.args.station.now c.args.steps.now.old_steps.items c.requires.steps.steps.old_all places
    c.requires.steps.old_at c.args.moved c.args.choices.now c.requires.count c.requires.small)
