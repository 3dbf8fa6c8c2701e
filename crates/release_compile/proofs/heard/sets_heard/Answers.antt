use Rattle.std.proofs.Common.{inl, inr, subst, arith}
use Rattle.judge_pool.specs.declared.view.View.TheVariants.{Gap, Load}
use Rattle.decision_graphs.specs.Label.{Layered}
use Rattle.decision_graphs.specs.Reaching.{AreSetsOf}
use Rattle.judge_pool.specs.Lettered.{lettered}
use Rattle.judge_graphs.specs.BuiltView.{view_of}
use Rattle.judge_graphs.proofs.MergedLemmas.{merged_is}
use Rattle.release_compile.proofs.HeardLemmas.{other_sets}
use Rattle.release_compile.proofs.heard.sets_heard.Goals as goal

pub heard_sets-requires-clause-layers : goal.heard_sets-requires-clause-layers
heard_sets-requires-clause-layers c =
    let o = merged_is Gap (lettered c.args.station.now c.args.parts.now) c.args.bay.0 c.args.graphs.now.first
    c.args.graphs.now.count (view_of c.args.graphs.now.gap) c.requires.graphs.gap in
    rw c.as_ref.ensures (omega (arith, o.count, c.requires.bay))

pub heard_sets-requires-clause-choices : goal.heard_sets-requires-clause-choices
heard_sets-requires-clause-choices c j lt =
    let o = merged_is Gap (lettered c.args.station.now c.args.parts.now) c.args.bay.0 c.args.graphs.now.first
    c.args.graphs.now.count (view_of c.args.graphs.now.gap) c.requires.graphs.gap in
    rw c.as_ref.ensures
    (o.choices j (omega (arith, lt, o.count, c.requires.bay)))

pub heard_sets-requires-clause-fit : goal.heard_sets-requires-clause-fit
heard_sets-requires-clause-fit c part s ne at = elim (c.requires.fits part s ne at) [
  | inl set ↦ inl (omega (arith, set.1.count))
  | inr none ↦ inr none.1
]

pub returns-clause-load : goal.returns-clause-load
returns-clause-load c =
    let g = merged_is Gap (lettered c.args.station.now c.args.parts.now) c.args.bay.0 c.args.graphs.now.first
    c.args.graphs.now.count (view_of c.args.graphs.now.gap) c.requires.graphs.gap in
    let l = merged_is Load (lettered c.args.station.now c.args.parts.now) c.args.bay.0 c.args.graphs.now.first
    c.args.graphs.now.count (view_of c.args.graphs.now.load) c.requires.graphs.load in
    other_sets (lettered c.args.station.now c.args.parts.now) c.args.bay.0
    c.args.graphs.now.gap.merged.value c.args.graphs.now.load.merged.value c.in_ok-sets.sets g l
    (subst (λ (x : Layered). AreSetsOf x.layers c.in_ok-sets.sets) c.as_ref.ensures c.in_ok-sets.ensures.sets)
