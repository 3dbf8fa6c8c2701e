use Rattle.std.proofs.Common.{◌≡◌, ◌∙◌, ◌<◌, List, length, refl, sym, ap, subst, arith, Some}
use Rattle.std.specs.Prelude.{slice_get}
use Rattle.std.proofs.lemmas.Option.{slice_get_read}
use Rattle.station_equations.specs.declared.goal.Goal.{Goal}
use Rattle.station_equations.specs.EquationLines.{EquationLines, NodeLine}
use Rattle.station_equations.specs.EquationMeaning.{Means}
use Rattle.station_equations.specs.EquationForm.{IsGoal}
use Rattle.station_equations.proofs.FollowLemmas.{nodes_fit_same, goal_fits, lines_mean}
use Rattle.station_equations.proofs.equations.Equations.evaluate.Goals as goal

pub follow-requires-clause-nodes : goal.follow-requires-clause-nodes
follow-requires-clause-nodes c =
    nodes_fit_same _ _ _ _ _ _ (ap (λ (e : EquationLines). length e.ops) c.self.view_is ∙ sym c.requires.vector)
    (sym c.deref.ensures.value) (sym c.deref-2.ensures.value) c.self.invariant.nodes

pub follow-requires-clause-start : goal.follow-requires-clause-start
follow-requires-clause-start c =
    let ops = c.self.inside.ops.items in
    let within : c.args.op.switch.0 < length c.self.inside.ops.items =
    omega (arith, c.requires.op, ap (λ (e : EquationLines). length e.ops) c.self.view_is) in
    let at : slice_get c.self.inside.ops.items c.args.op.switch.0 ≡ Some c.index-goals.result.now =
    slice_get_read ops (length ops) c.args.op.switch.0 c.index-goals.result.now refl within c.index-goals.ensures in
    let fits = goal_fits (length c.self.inside.nodes.items) c.index-goals.result.now c.args.op.direction
    (c.self.invariant.ops c.args.op.switch.0 c.index-goals.result.now at) in
    subst (λ (ns : List NodeLine). IsGoal (length ns) c.goal_towards-start.result) (sym c.deref-2.ensures.value)
    (subst (λ (g : Goal). IsGoal (length c.self.inside.nodes.items) g) (sym c.goal_towards-start.ensures) fits)

pub returns : goal.returns
returns c =
    let ops = c.self.inside.ops.items in
    let within : c.args.op.switch.0 < length c.self.inside.ops.items =
    omega (arith, c.requires.op, ap (λ (e : EquationLines). length e.ops) c.self.view_is) in
    let at : slice_get c.self.inside.ops.items c.args.op.switch.0 ≡ Some c.index-goals.result.now =
    slice_get_read ops (length ops) c.args.op.switch.0 c.index-goals.result.now refl within c.index-goals.ensures in
    subst (λ (e : EquationLines). Means e c.args.op c.args.vector.now c.follow.result) c.self.view_is
    (lines_mean c.self.inside.parts.items c.deref.result.now c.self.inside.nodes.items c.deref-2.result.now ops
    c.args.op c.args.vector.now c.follow.result c.index-goals.result.now c.goal_towards-start.result at
    c.goal_towards-start.ensures c.deref.ensures.value c.deref-2.ensures.value c.follow.ensures)
