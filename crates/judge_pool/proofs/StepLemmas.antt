-- The edges of a step, by state and choice.
use Rattle.std.proofs.Common.{◌≡◌, ℕ, ◌+◌, ◌*◌, ◌<◌, List, length, get_or, slice_get, Some, ap, ◌∙◌, inl, inr, arith}
use Rattle.std.proofs.lemmas.Nat.{div-mul-add, mod-mul-add}
use Rattle.std.proofs.lemmas.Option.{slice_get_within, slice_get_cases}
use Rattle.contraction.specs.Answers.{Answers}
use Rattle.decision_graphs.specs.Finished.{layer_with}
use Rattle.decision_graphs.specs.Label.{LayerFits}
use Rattle.decision_graphs.proofs.RowLemmas.{length-rows_of, element-rows_of, row_end, length-row}
use Rattle.judge_pool.specs.declared.view.View.{View}
use Rattle.judge_pool.specs.Folding.{Carried, IsStep}

-- the element at a place that is within the list
element : {X : Type 0} (xs : List X) (i : ℕ) → i < length xs → (x : X) × (slice_get xs i ≡ Some x)
element xs i h = elim ((slice_get_cases xs i).1) [ inl w ↦ (w.0, w.2) | inr w ↦ absurd (omega (arith, w.0)) ]

-- the edge of a state and a choice
module _ (view : View) (keep : List ℕ) (states letters next : List Answers) (edges : List ℕ)
    (s : IsStep view keep states letters next edges) where
  edge_in : (k c : ℕ) → k < length states → c < length letters → k * length letters + c < length edges
  edge_in k c k_in c_in = omega (arith, s.len, row_end (length letters) (length states) k c k_in c_in)

  pub carried_at : (k c : ℕ) (x y : Answers) → slice_get states k ≡ Some x → slice_get letters c ≡ Some y →
      Carried view x y next (get_or edges (k * length letters + c) 0)
  carried_at k c x y at_k at_c =
      let k_in = slice_get_within states k x at_k in
      let c_in = slice_get_within letters c y at_c in
      s.carried (k * length letters + c) x y (edge_in k c k_in c_in)
      (ap (slice_get states) (div-mul-add k (length letters) c c_in) ∙ at_k)
      (ap (slice_get letters) (mod-mul-add k (length letters) c c_in) ∙ at_c)

  pub layer_fits : 0 < length states → 0 < length letters →
      LayerFits (length next) (layer_with (length letters) (length states) edges)
  layer_fits some_state some_letter = record {
    choices = some_letter;
    nodes = omega (arith, length-rows_of (length letters) (length states) edges);
    rows =
        λ k k_in. length-row (length letters) (length states) edges k
        (omega (arith, k_in, length-rows_of (length letters) (length states) edges)) (omega (arith, s.len));
    edges = λ k c k_in c_in.
        let k_st : k < length states = omega (arith, k_in, length-rows_of (length letters) (length states) edges) in
        let x = element states k k_st in
        let y = element letters c c_in in
        let t = carried_at k c x.0 y.0 x.1 y.1 in
        let within = slice_get_within next (get_or edges (k * length letters + c) 0) t.value t.listed in
        omega (arith, within, element-rows_of (length letters) (length states) edges k c 0 k_st c_in);
  }
