-- Rising lists of numbers that name exactly those of a kind.
use Rattle.std.proofs.Common.{◌≡◌, ◌↔◌, ℕ, ◌+◌, ◌<◌, List, [], ◌∷◌, ◌++◌, length, slice_index, Contains, subst, inl}
use Rattle.std.proofs.Common.{inr, arith}
use Rattle.std.proofs.lemmas.Bool.{cases_lt}
use Rattle.std.proofs.lemmas.List.{length_push, get_or_append_left, get_or_push}
use Rattle.std.proofs.lemmas.List.Elements.{Contains-push, Contains-push_cases, Contains-append_left}
use Rattle.station_graph.specs.Nodes.{Rises}

-- The numbers below n of this kind, rising.
pub record AreBelow (Kind : ℕ → Type 0) (numbers : List ℕ) (n : ℕ) : Type 0 where
  pub rises : Rises numbers
  pub below : (k : ℕ) → k < length numbers → slice_index numbers k < n
  pub exact : (p : ℕ) → Contains numbers p ↔ ((p < n) × Kind p)

module _ (Kind : ℕ → Type 0) (numbers : List ℕ) (n : ℕ) (h : AreBelow Kind numbers n) where
  pub below_push : Kind n → AreBelow Kind (numbers ++ n ∷ []) (n + 1)
  below_push kind =
      let len : length (numbers ++ n ∷ []) ≡ length numbers + 1 = length_push numbers n in
      record {
        rises = λ j k jk k_in. elim (cases_lt k (length numbers)) [
          | inl k_old ↦
              let j_is = get_or_append_left numbers (n ∷ []) 0 j (omega arith) in
              let k_is = get_or_append_left numbers (n ∷ []) 0 k k_old in
              let less = h.rises j k jk k_old in
              omega arith
          | inr k_new ↦
              let j_is = get_or_append_left numbers (n ∷ []) 0 j (omega arith) in
              let k_is = get_or_push numbers n 0 k (omega arith) in
              let less = h.below j (omega arith) in
              omega arith
        ];
        below = λ k k_in. elim (cases_lt k (length numbers)) [
          | inl k_old ↦
              let k_is = get_or_append_left numbers (n ∷ []) 0 k k_old in
              let less = h.below k k_old in
              omega arith
          | inr k_new ↦
              let k_is = get_or_push numbers n 0 k (omega arith) in
              omega arith
        ];
        exact = λ p. (
          λ c. elim (Contains-push_cases numbers n p c) [
            | inl old ↦ let w = (h.exact p).0 old in (omega (arith, w.0), w.1)
            | inr e ↦ (omega arith, subst Kind e kind)
          ],
          λ w. elim (cases_lt p n) [
            | inl less ↦ Contains-append_left numbers (n ∷ []) p ((h.exact p).1 (less, w.1))
            | inr more ↦
                let e : n ≡ p = omega (arith, w.0) in
                subst (λ m. Contains (numbers ++ n ∷ []) m) e (Contains-push numbers n)
          ],
        );
      }

  pub below_pass : ¬ Kind n → AreBelow Kind numbers (n + 1)
  below_pass fails = record {
    rises = h.rises;
    below = λ k k_in. omega (arith, h.below k k_in);
    exact = λ p. (
      λ c. let w = (h.exact p).0 c in (omega (arith, w.0), w.1),
      λ w. elim (cases_lt p n) [
        | inl less ↦ (h.exact p).1 (less, w.1)
        | inr more ↦ (let e : p ≡ n = omega (arith, w.0) in absurd (fails (subst Kind e w.1)))
      ],
    );
  }
