-- A walk that keeps the limit does not pass it, and along one family of orders a switch that is narrow is not too wide.
use Rattle.std.proofs.Common.{◌≡◌, ℕ, List, slice_get, sym, ap, ◌∙◌, subst, inl, inr, arith}
use Rattle.std.proofs.lemmas.Bool.{cases_eq, cases_lt}
use Rattle.std.proofs.lemmas.Option.{same_Some}
use Rattle.station_graph.specs.declared.items.Switch.{Switch}
use Rattle.station_graph.specs.Diagram.{Diagram}
use Rattle.step_graphs.specs.declared.step.Step.{Step}
use Rattle.station_joints.specs.Together.{AreJointSteps}
use Rattle.change_search.proofs.WidthLemmas.{keep_excludes, products_exclude}
use Rattle.station_compare.specs.Width.{GraphPasses, GraphsKeep, PassesWalk, KeepsWalk, IsNarrowAlong}
use Rattle.station_compare.specs.Sharing.{limit_by}
use Rattle.station_compare.specs.Orders.{Orders, IsCarried, IsNarrow, IsTooWide, IsFirstWide}

graphs_exclude : (d : Diagram) (steps : List Step) (b m limit : ℕ) → GraphsKeep d steps b m limit →
    GraphPasses d steps b m limit → ⊥
graphs_exclude d steps b m limit keep (view, has, pass) = keep_excludes view d steps b limit (keep view has) pass

walk_excludes : (o n : Diagram) (ss ts : List Step) (b i k limit : ℕ) → AreJointSteps o n ss ts →
    KeepsWalk o n ss ts b i k limit → PassesWalk o n ss ts b i k limit → ⊥
walk_excludes o n ss ts b i k limit j keep (inl pass) = graphs_exclude o ss b i limit keep.old_keeps pass
walk_excludes o n ss ts b i k limit j keep (inr (inl pass)) = graphs_exclude n ts b k limit keep.new_keeps pass
walk_excludes o n ss ts b i k limit j keep (inr (inr pass)) =
    products_exclude o n ss ts b i k limit j.old_all j.new_all j.len keep.others keep.count keep.old_gap keep.new_gap
    keep.old_load keep.new_load keep.is_old_gap keep.is_new_gap keep.is_old_load keep.is_new_load keep.room pass

pub narrow_excludes : (o n : Diagram) (orders : Orders o n) (bay k : ℕ) → IsNarrow o n orders k →
    IsTooWide o n orders bay k → ⊥
narrow_excludes o n orders bay k narrow wide =
    let w = wide.wide in
    let limit = limit_by n orders.like in
    walk_excludes o n (orders.old_steps bay) (orders.new_steps bay) w.place w.old k limit (orders.joint bay)
    (subst (λ p. ¬ IsCarried (orders.like p) k → IsNarrowAlong o n (orders.old_steps p) (orders.new_steps p) k
    (limit_by n orders.like)) wide.of_bay
    (narrow wide.switch wide.at) wide.not_carried w.place w.old w.walk) w.passes

-- one family has one first bay that is too wide
pub one_first : (o n : Diagram) (orders : Orders o n) (a b : ℕ) → IsFirstWide o n orders a → IsFirstWide o n orders b → a ≡ b
one_first o n orders a b f g = elim (cases_lt f.switch g.switch) [
  | inl less ↦ absurd (narrow_excludes o n orders a f.switch (g.before f.switch less) f.too_wide)
  | inr more ↦ elim (cases_eq f.switch g.switch) [
    | inl e ↦
        (let same : f.too_wide.switch ≡ g.too_wide.switch =
        same_Some f.too_wide.switch g.too_wide.switch
        (sym f.too_wide.at ∙ (ap (λ k. slice_get n.switches k) e ∙ g.too_wide.at)) in
        sym f.too_wide.of_bay ∙ (ap (λ (x : Switch). x.bay.0) same ∙ g.too_wide.of_bay))
    | inr ne ↦
        absurd (narrow_excludes o n orders b g.switch (f.before g.switch (omega (arith, more, ne))) g.too_wide)
  ]
]
