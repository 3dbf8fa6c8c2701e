-- The edges of an outer graph's layers are those that its plan has.
use Rattle.std.proofs.Common.{◌≡◌, ℕ, ◌+◌, ◌-◌, ◌<◌, ◌≤◌, Bool, List, [], length, get_or, slice_get, Some, sym, ◌∙◌}
use Rattle.std.proofs.Common.{subst, arith}
use Rattle.std.proofs.lemmas.Option.{slice_get_within, slice_get-get_or}
use Rattle.station_graph.specs.Diagram.{part_count}
use Rattle.station_graph.specs.Alike.{Alike}
use Rattle.contraction.specs.Stands.{Among}
use Rattle.part_alphabets.specs.Counting.{AreSoMany}
use Rattle.judge_pool.specs.declared.view.View.{View}
use Rattle.judge_pool.specs.declared.pool.Pool.{Pool}
use Rattle.judge_pool.specs.Lettered.{Lettered}
use Rattle.judge_pool.specs.Seen.{SameView}
use Rattle.judge_pool.specs.Graphs.{other_of}
use Rattle.judge_pool.specs.Needing.{IsNeededOuter}
use Rattle.judge_pool.specs.Counted.{AreAtLeast, OuterHas, Spends, Passes}
use Rattle.judge_pool.specs.Plans.{outer_plan, PlanHas, PlanPasses}
use Rattle.judge_intake.specs.Ready.{IsOuterReady}
use Rattle.judge_intake.proofs.OtherLemmas.{other_in}
use Rattle.judge_intake.proofs.OuterFits.{outer_items}
use Rattle.judge_graphs.proofs.EdgesLemmas.{alphabet_counts, outer_all}

module _ (view : View) (a : Lettered) (b : ℕ) (p : Pool) (start : ℕ) (letters : List (List ℕ)) (keeps : List ℕ)
    (ready : IsOuterReady a b p start letters keeps) where
  part_there : (j : ℕ) → j < length letters → other_of 0 b j < part_count a.diagram
  part_there j lt = omega (arith, (other_in 0 b (length letters) j lt).1, ready.count)

  -- how many indices another part has
  indices_of : (j : ℕ) → j < length letters →
      (choices : ℕ) × AreSoMany a.diagram (Alike a.diagram (other_of 0 b j)) choices
  indices_of j lt = (
    _,
    alphabet_counts a.diagram a.alphabets (other_of 0 b j)
        (ready.lettered.alphabets.each (other_of 0 b j) (part_there j lt)),
  )

  outer_has : (Many : (List Bool → List Bool → Type 0) → ℕ → Type 0) (n edges : ℕ) → n ≤ length letters →
      PlanHas view (outer_plan a b) letters n Many edges → OuterHas view a.diagram b n Many edges
  outer_has Many n edges few h = record {
    sizes = h.sizes;
    len = h.len;
    views =
        λ j s at. subst
        (λ xs. Many (λ v w. SameView view (IsNeededOuter a.diagram b j) (Among xs) a.diagram v w) s.views)
        (outer_items a b j) (h.views j s at);
    indices = λ j s at.
        let lt : j < length letters = omega (arith, slice_get_within h.sizes j s at, h.len, few) in
        let ids : List ℕ = get_or letters j [] in
        let at_j : slice_get letters j ≡ Some ids = slice_get-get_or letters j [] lt in
        subst (λ n. AreSoMany a.diagram (Alike a.diagram (other_of 0 b j)) n)
        (sym (h.choices j s ids at at_j ∙ (ready.rows.each j ids at_j).len)) (alphabet_counts a.diagram a.alphabets
        (other_of 0 b j) (ready.lettered.alphabets.each (other_of 0 b j) (part_there j lt)));
    all = h.all;
  }

  pub outer_spends : (limit left : ℕ) →
      Spends (PlanHas view (outer_plan a b) letters (length letters)) a.diagram limit left →
      Spends (OuterHas view a.diagram b (length letters)) a.diagram limit left
  outer_spends limit left h = record {
    edges = h.edges;
    has = outer_has (AreSoMany a.diagram) (length letters) h.edges (omega arith) h.has;
    all = h.all;
  }

  pub outer_passes : (limit : ℕ) → PlanPasses view (outer_plan a b) letters limit →
      Passes (OuterHas view a.diagram b (length letters)) a.diagram limit
  outer_passes limit h =
      let here = outer_has (AreAtLeast a.diagram) h.layers h.first.edges h.within h.first.has in
      let e : h.layers + (length letters - h.layers) ≡ length letters = omega (arith, h.within) in
      let all = outer_all view a.diagram b (length letters - h.layers) h.layers h.first.edges
      (λ j lt. indices_of j (omega (arith, lt, e))) here in
      record {
        edges = h.first.edges;
        has = subst (λ n. OuterHas view a.diagram b n (AreAtLeast a.diagram) h.first.edges) e all;
        past = h.first.past;
      }
