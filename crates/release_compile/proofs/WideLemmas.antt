-- The edges of the parts of a station, part by part, and the first bay that is too wide.
use Rattle.std.proofs.Common.{◌≡◌, ℕ, ◌+◌, ◌-◌, ◌≤◌, ◌⊎◌, [], ◌∷◌, ◌++◌, sym, ◌∙◌, subst, inl, inr, arith}
use Rattle.std.proofs.lemmas.List.{length_push}
use Rattle.std.proofs.lemmas.List.Sums.{sum_by_push}
use Rattle.station_graph.specs.Diagram.{Diagram}
use Rattle.station_graph.proofs.PathLemmas.{slice_get-push}
use Rattle.central_rules.specs.Meaning.{IsBay}
use Rattle.judge_pool.specs.declared.limits.TheConstants.{BAY_EDGES, ALL_EDGES}
use Rattle.judge_pool.specs.Counted.{BayHas, Passes}
use Rattle.release_compile.specs.Judging.{PartHasEdges, KeepEdges, IsFirstWide}

pub keep_more : (d : Diagram) (n edges size : ℕ) → KeepEdges d n edges → PartHasEdges d n size → size ≤ BAY_EDGES →
    edges + size ≤ ALL_EDGES → KeepEdges d (n + 1) (edges + size)
keep_more d n edges size h new few all = record {
  each = h.each ++ size ∷ [];
  len = omega (arith, length_push h.each size, h.len);
  counted = λ part k at. elim (slice_get-push h.each size k part at) [
    | inl before ↦ h.counted part k before
    | inr here ↦
        subst (λ z. PartHasEdges d part z × (z ≤ BAY_EDGES)) here.1
        (subst (λ z. PartHasEdges d z size) (sym (here.0 ∙ h.len)) new, few)
  ];
  all = omega (arith, sum_by_push (λ (x : ℕ). x) h.each size, h.all);
  few = all;
}

-- the bay at which the edges that are left are too few is the first that is too wide
pub first_wide : (d : Diagram) (b spent left : ℕ) → IsBay d b → KeepEdges d b spent →
    (left ≡ BAY_EDGES) ⊎ (left + spent ≡ ALL_EDGES) → Passes (BayHas d b) d left → IsFirstWide d b
first_wide d b spent left bay before either past = record {
  bay = bay;
  spent = spent;
  before = before;
  past = elim either [
    | inl one ↦ inl (subst (λ n. Passes (BayHas d b) d n) one past)
    | inr all ↦
        inr (let e : left ≡ ALL_EDGES - spent = omega (arith, all) in subst (λ n. Passes (BayHas d b) d n) e past)
  ];
}
