-- The nodes below a number that have a property, gathered in rising order.
use Rattle.std.proofs.Common.{◌≡◌, ◌↔◌, ℕ, ◌+◌, ◌<◌, List, [], ◌∷◌, ◌++◌, length, slice_index, Contains, subst, inl}
use Rattle.std.proofs.Common.{inr, arith}
use Rattle.std.proofs.lemmas.Bool.{cases_lt}
use Rattle.std.proofs.lemmas.List.{length_push, get_or_append_left, get_or_push}
use Rattle.std.proofs.lemmas.List.Elements.{Contains-push, Contains-push_cases, Contains-append_left}
use Rattle.station_graph.specs.Nodes.{Rises}

pub record Picks (P : ℕ → Type 0) (i : ℕ) (nodes : List ℕ) : Type 0 where
  pub rises : Rises nodes
  pub below : (k : ℕ) → k < length nodes → slice_index nodes k < i
  pub exact : (n : ℕ) → Contains nodes n ↔ ((n < i) × P n)

module _ (P : ℕ → Type 0) (i : ℕ) (nodes : List ℕ) (h : Picks P i nodes) where
  pub Picks-push : P i → Picks P (i + 1) (nodes ++ i ∷ [])
  Picks-push has =
      let len : length (nodes ++ i ∷ []) ≡ length nodes + 1 = length_push nodes i in
      record {
        rises = λ j k jk k_in. elim (cases_lt k (length nodes)) [
          | inl k_old ↦
              let j_is = get_or_append_left nodes (i ∷ []) 0 j (omega arith) in
              let k_is = get_or_append_left nodes (i ∷ []) 0 k k_old in
              let less = h.rises j k jk k_old in
              omega arith
          | inr k_new ↦
              let j_is = get_or_append_left nodes (i ∷ []) 0 j (omega arith) in
              let k_is = get_or_push nodes i 0 k (omega arith) in
              let less = h.below j (omega arith) in
              omega arith
        ];
        below = λ k k_in. elim (cases_lt k (length nodes)) [
          | inl k_old ↦
              let k_is = get_or_append_left nodes (i ∷ []) 0 k k_old in
              let less = h.below k k_old in
              omega arith
          | inr k_new ↦
              let k_is = get_or_push nodes i 0 k (omega arith) in
              omega arith
        ];
        exact = λ n. (
          λ c. elim (Contains-push_cases nodes i n c) [
            | inl old ↦ let w = (h.exact n).0 old in (omega (arith, w.0), w.1)
            | inr e ↦ (omega arith, subst P e has)
          ],
          λ w. elim (cases_lt n i) [
            | inl less ↦ Contains-append_left nodes (i ∷ []) n ((h.exact n).1 (less, w.1))
            | inr more ↦
                let e : i ≡ n = omega (arith, w.0) in
                subst (λ m. Contains (nodes ++ i ∷ []) m) e (Contains-push nodes i)
          ],
        );
      }

  pub Picks-pass : ¬ P i → Picks P (i + 1) nodes
  Picks-pass fails = record {
    rises = h.rises;
    below = λ k k_in. omega (arith, h.below k k_in);
    exact = λ n. (
      λ c. let w = (h.exact n).0 c in (omega (arith, w.0), w.1),
      λ w. elim (cases_lt n i) [
        | inl less ↦ (h.exact n).1 (less, w.1)
        | inr more ↦ let e : n ≡ i = omega (arith, w.0) in absurd (fails (subst P e w.1))
      ],
    );
  }
