use Rattle.std.proofs.Common.{◌≡◌, ◌<◌, ◌-◌, ℕ, Bool, List, length, sym, subst, arith}
use Rattle.decision_graphs.specs.Label.{layer_at}
use Rattle.decision_graphs.specs.Reaching.{IsSet}
use Rattle.dependence_search.specs.Parting.{AreParting}
use Rattle.graph_products.proofs.ListLemmas.{size_in, some_start}
use Rattle.dependence_search.proofs.PartingLemmas.{marks_at}
use Rattle.dependence_search.proofs.telling.starts_parting.Goals as goal

pub returns : goal.returns
returns c =
    let g = c.args.graph.now in
    let layer : ℕ = c.args.layer in
    let v = c.index-marks-from.result in
    let none : layer - layer ≡ 0 = omega arith in
    let are : AreParting g.layers 0 layer v.items =
    subst (λ (k : ℕ). AreParting g.layers k layer v.items) none
    (marks_at g.layers layer c.args.marks.now layer c.from.result v c.requires.marks c.from.ensures
    c.index-marks-from.is (omega (arith, c.requires.len))) in
    let some : 0 < length (layer_at g.layers 0).rows = omega (
      arith,
      some_start g.labels g.layers c.labels-fits.ensures.layered,
      size_in g.labels g.layers 0 (omega (arith, c.requires.layer)),
    ) in
    let start = are.each 0 some in (
      λ t. start.0 (subst (λ (l : List Bool). IsSet l 0) c.deref.ensures.value (c.is_marked.ensures.0 t)),
      λ p. c.is_marked.ensures.1 (subst (λ (l : List Bool). IsSet l 0) (sym c.deref.ensures.value) (start.1 p)),
    )
