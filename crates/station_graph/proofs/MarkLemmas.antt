-- Marks on nodes: which nodes are marked, and the nodes that have both marks.
use Rattle.std.proofs.Common.{◌≡◌, ◌↔◌, ℕ, ◌+◌, ◌<◌, zero, suc, Bool, true, false, List, [], ◌∷◌, ◌++◌}
use Rattle.std.proofs.Common.{length, slice_get, slice_index, get_or, Contains, take, Some, ◌∙◌, ap, subst}
use Rattle.std.proofs.Common.{inl, inr, arith}
use Rattle.std.proofs.Math.ListN.{replicate}
use Rattle.std.proofs.Math.Seq.{take-append_seam}
use Rattle.std.proofs.lemmas.Bool.{cases_lt}
use Rattle.std.proofs.lemmas.Option.{slice_get_within, slice_get-get_or, get_or_from_slice_get}
use Rattle.std.proofs.lemmas.List.{length_push, get_or_append_left, get_or_push}
use Rattle.std.proofs.lemmas.List.Elements.{Contains-push, Contains-push_cases, Contains-append_left}
use Rattle.station_graph.specs.Nodes.{Rises}
use Rattle.station_graph.specs.Marking.{Marks, SomeBelow}

pub SomeBelow-from : {X : Type 0} (xs : List X) (P : X → Type 0) (i : ℕ) (x : X) → slice_get xs i ≡ Some x → P x →
    SomeBelow xs P (length xs)
SomeBelow-from xs P i x at p = record {
  place = i;
  item = x;
  below = slice_get_within xs i x at;
  listed = at;
  holds = p;
}

not_true_in_false : (count n : ℕ) → slice_get (replicate count false) n ≡ Some true → ⊥
not_true_in_false zero n e = cc
not_true_in_false (suc count) zero e = cc
not_true_in_false (suc count) (suc n) e = not_true_in_false count n e

-- where nothing was marked before, exactly what has P is marked
pub marked_exactly : (P : ℕ → Type 0) (count : ℕ) (old new : List Bool) → old ≡ replicate count false →
    Marks P old new → (n : ℕ) → (slice_get new n ≡ Some true) ↔ P n
marked_exactly P count old new none h n = (
  λ e. elim ((h.marked n).0 e) [
    | inl o ↦ absurd (not_true_in_false count n (subst (λ (m : List Bool). slice_get m n ≡ Some true) none o))
    | inr p ↦ p
  ],
  λ p. (h.marked n).1 (inr p),
)

-- The nodes below i that have both marks, rising.
pub record Gathers (here there : List Bool) (i : ℕ) (nodes : List ℕ) : Type 0 where
  pub rises : Rises nodes
  pub below : (k : ℕ) → k < length nodes → slice_index nodes k < i
  pub exact : (n : ℕ) → Contains nodes n ↔ ((n < i) × (slice_get here n ≡ Some true) × (slice_get there n ≡ Some true))

module _ (here there : List Bool) (i : ℕ) (nodes : List ℕ) (h : Gathers here there i nodes) where
  pub Gathers-push : slice_get here i ≡ Some true → slice_get there i ≡ Some true →
      Gathers here there (i + 1) (nodes ++ i ∷ [])
  Gathers-push yes_here yes_there =
      let len : length (nodes ++ i ∷ []) ≡ length nodes + 1 = length_push nodes i in
      record {
        rises = λ j k jk k_in. elim (cases_lt k (length nodes)) [
          | inl k_old ↦
              let j_is = get_or_append_left nodes (i ∷ []) 0 j (omega arith) in
              let k_is = get_or_append_left nodes (i ∷ []) 0 k k_old in
              let less = h.rises j k jk k_old in
              omega arith
          | inr k_new ↦
              let j_is = get_or_append_left nodes (i ∷ []) 0 j (omega arith) in
              let k_is = get_or_push nodes i 0 k (omega arith) in
              let less = h.below j (omega arith) in
              omega arith
        ];
        below = λ k k_in. elim (cases_lt k (length nodes)) [
          | inl k_old ↦
              let k_is = get_or_append_left nodes (i ∷ []) 0 k k_old in
              let less = h.below k k_old in
              omega arith
          | inr k_new ↦
              let k_is = get_or_push nodes i 0 k (omega arith) in
              omega arith
        ];
        exact = λ n. (
          λ c. elim (Contains-push_cases nodes i n c) [
            | inl old ↦ let w = (h.exact n).0 old in (omega (arith, w.0), w.1, w.2)
            | inr e ↦ (
              omega arith,
              subst (λ m. slice_get here m ≡ Some true) e yes_here,
              subst (λ m. slice_get there m ≡ Some true) e yes_there,
            )
          ],
          λ w. elim (cases_lt n i) [
            | inl less ↦ Contains-append_left nodes (i ∷ []) n ((h.exact n).1 (less, w.1, w.2))
            | inr more ↦
                let e : i ≡ n = omega (arith, w.0) in
                subst (λ m. Contains (nodes ++ i ∷ []) m) e (Contains-push nodes i)
          ],
        );
      }

  pub Gathers-pass : ((slice_get here i ≡ Some true) × (slice_get there i ≡ Some true) → ⊥) →
      Gathers here there (i + 1) nodes
  Gathers-pass fails = record {
    rises = h.rises;
    below = λ k k_in. omega (arith, h.below k k_in);
    exact = λ n. (
      λ c. let w = (h.exact n).0 c in (omega (arith, w.0), w.1, w.2),
      λ w. elim (cases_lt n i) [
        | inl less ↦ (h.exact n).1 (less, w.1, w.2)
        | inr more ↦
            let e : n ≡ i = omega (arith, w.0) in
            absurd (fails (
              subst (λ m. slice_get here m ≡ Some true) e w.1,
              subst (λ m. slice_get there m ≡ Some true) e
                  w.2,
            ))
      ],
    );
  }

pub is_marked : (xs : List Bool) (i : ℕ) → i < length xs → get_or xs i false ≡ true → slice_get xs i ≡ Some true
is_marked xs i i_in e = slice_get-get_or xs i false i_in ∙ ap Some e

pub not_marked : (xs : List Bool) (i : ℕ) → get_or xs i false ≡ false → slice_get xs i ≡ Some true → ⊥
not_marked xs i e at = let is = get_or_from_slice_get xs i true false at in cc

pub taken_back : (xs ys : List Bool) (n : ℕ) → n ≡ length xs → take n (xs ++ ys) ≡ xs
taken_back xs ys n e = ap (λ k. take k (xs ++ ys)) e ∙ take-append_seam xs ys
