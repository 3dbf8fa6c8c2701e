-- Values of one or two nodes.
use Rattle.std.proofs.Common.{◌≡◌, ℕ, ◌<◌, ◌≤◌, ◌⊎◌, ◌↔◌, zero, suc, Bool, true, false, cond, List, [], ◌∷◌, min, max}
use Rattle.std.proofs.Common.{slice_get, slice_index, Some, refl, sym, ◌∙◌, ap, subst, inl, inr, arith}
use Rattle.std.proofs.lemmas.Bool.{cases_lt}
use Rattle.station_graph.specs.declared.limits.TheConstants.{NODES}
use Rattle.contraction.specs.Answers.{Answers, IsAt, Keeps, AreLabels, AreNodes, IsContraction}
use Rattle.contraction.specs.Single.{NoneMarked, PairLabels, IsPair}

module _ (lo hi : ℕ) where
  abbrev two : List ℕ
  two = lo ∷ hi ∷ []

  which_place : (k n : ℕ) → IsAt two k n → ((k ≡ 0) × (lo ≡ n)) ⊎ ((k ≡ 1) × (hi ≡ n))
  which_place zero n e = inl (refl, cc)
  which_place (suc zero) n e = inr (refl, cc)
  which_place (suc (suc k)) n e = cc

  pub two_keeps : (n : ℕ) → Keeps two n ↔ ((n ≡ lo) ⊎ (n ≡ hi))
  two_keeps n = (
    λ k. elim (which_place k.place n k.at) [ inl e ↦ inl (sym e.1) | inr e ↦ inr (sym e.1) ],
    λ h. elim h [
      | inl e ↦ record { place = 0; at = ap Some (sym e) }
      | inr e ↦ record { place = 1; at = ap Some (sym e) }
    ],
  )

  all_zero : (k : ℕ) → slice_index (0 ∷ 0 ∷ []) k ≡ 0
  all_zero zero = refl
  all_zero (suc zero) = refl
  all_zero (suc (suc k)) = refl

  pub two_labels_same : (same : Bool) → PairLabels two (0 ∷ cond same 0 1 ∷ []) same
  two_labels_same true x y kx ky = (
    λ s. inr refl,
    λ h. record {
      first = kx.place;
      second = ky.place;
      at_first = kx.at;
      at_second = ky.at;
      same = all_zero kx.place ∙ sym (all_zero ky.place);
    },
  )
  two_labels_same false x y kx ky = (
    λ s. elim (which_place s.first x s.at_first) [
      | inl e ↦ elim (which_place s.second y s.at_second) [
        | inl f ↦ inl (sym e.1 ∙ f.1)
        | inr f ↦
            absurd (let same = sym (ap (slice_index (0 ∷ 1 ∷ [])) e.0) ∙ s.same ∙ ap (slice_index (0 ∷ 1 ∷ [])) f.0 in
            omega (arith, same))
      ]
      | inr e ↦ elim (which_place s.second y s.at_second) [
        | inl f ↦
            absurd (let same = sym (ap (slice_index (0 ∷ 1 ∷ [])) e.0) ∙ s.same ∙ ap (slice_index (0 ∷ 1 ∷ [])) f.0 in
            omega (arith, same))
        | inr f ↦ inl (sym e.1 ∙ f.1)
      ]
    ],
    λ h. elim h [
      | inl e ↦ record {
        first = kx.place;
        second = kx.place;
        at_first = kx.at;
        at_second = subst (IsAt two kx.place) e kx.at;
        same = refl;
      }
      | inr e ↦ absurd (cc)
    ],
  )

  pub two_unmarked : NoneMarked two (false ∷ false ∷ [])
  two_unmarked n m = elim (which_place m.place n m.at) [
    | inl e ↦ let at = sym (ap (slice_get (false ∷ false ∷ [])) e.0) ∙ m.marked in cc
    | inr e ↦ let at = sym (ap (slice_get (false ∷ false ∷ [])) e.0) ∙ m.marked in cc
  ]

  pub two_nodes : lo < hi → hi < NODES → AreNodes two
  two_nodes less small = record { rises = rising; small = small_at } where
    rising : (j k : ℕ) → j < k → k < 2 → slice_index two j < slice_index two k
    rising zero zero h i = absurd (omega arith)
    rising zero (suc zero) h i = less
    rising zero (suc (suc k)) h i = absurd (omega arith)
    rising (suc j) zero h i = absurd (omega arith)
    rising (suc j) (suc zero) h i = absurd (omega arith)
    rising (suc j) (suc (suc k)) h i = absurd (omega arith)

    small_at : (k : ℕ) → k < 2 → slice_index two k < NODES
    small_at zero h = omega arith
    small_at (suc zero) h = small
    small_at (suc (suc k)) h = absurd (omega arith)

below_two : (same : Bool) (k : ℕ) → k < 2 → slice_index (0 ∷ cond same 0 1 ∷ []) k ≤ k
below_two same zero h = omega arith
below_two true (suc zero) h = omega arith
below_two false (suc zero) h = omega arith
below_two same (suc (suc k)) h = absurd (omega arith)

steady_two : (same : Bool) (k : ℕ) → k < 2 →
    slice_index (0 ∷ cond same 0 1 ∷ []) (slice_index (0 ∷ cond same 0 1 ∷ []) k)
    ≡ slice_index (0 ∷ cond same 0 1 ∷ []) k
steady_two same zero h = refl
steady_two true (suc zero) h = refl
steady_two false (suc zero) h = refl
steady_two same (suc (suc k)) h = absurd (omega arith)

pub two_are_labels : (same : Bool) → AreLabels 2 (0 ∷ cond same 0 1 ∷ [])
two_are_labels same = record { len = refl; below = below_two same; steady = steady_two same }

abbrev pub pair_answers : ℕ → ℕ → Bool → Bool → Bool → Answers
pair_answers lo hi coupled joined bonded = record {
  kept = lo ∷ hi ∷ [];
  coupled = 0 ∷ cond coupled 0 1 ∷ [];
  joined = 0 ∷ cond joined 0 1 ∷ [];
  bonded = 0 ∷ cond bonded 0 1 ∷ [];
  energisable = false ∷ false ∷ [];
  earthable = false ∷ false ∷ [];
  fed = false ∷ false ∷ [];
  loaded = false ∷ false ∷ [];
}

none_fed : (k : ℕ) → slice_get (false ∷ false ∷ []) k ≡ Some true → slice_get (false ∷ false ∷ []) k ≡ Some true
none_fed k e = e

pub pair_well : (lo hi : ℕ) (coupled joined bonded : Bool) → lo < hi → hi < NODES →
    IsContraction (pair_answers lo hi coupled joined bonded)
pair_well lo hi coupled joined bonded less small = record {
  nodes = two_nodes lo hi less small;
  coupled = two_are_labels coupled;
  joined = two_are_labels joined;
  bonded = two_are_labels bonded;
  energisable = refl;
  earthable = refl;
  fed = refl;
  loaded = refl;
  fed_loaded = none_fed;
}

ends_of : (a b n : ℕ) → ((n ≡ min a b) ⊎ (n ≡ max a b)) ↔ ((n ≡ a) ⊎ (n ≡ b))
ends_of a b n = elim (cases_lt a b) [
  | inl less ↦
      let lo : min a b ≡ a = omega arith in
      let hi : max a b ≡ b = omega arith in (
        λ h. elim h [ inl e ↦ inl (e ∙ lo) | inr e ↦ inr (e ∙ hi) ],
        λ h. elim h [ inl e ↦ inl (e ∙ sym lo) | inr e ↦ inr (e ∙ sym hi) ],
      )
  | inr more ↦
      let lo : min a b ≡ b = omega arith in
      let hi : max a b ≡ a = omega arith in (
        λ h. elim h [ inl e ↦ inr (e ∙ lo) | inr e ↦ inl (e ∙ hi) ],
        λ h. elim h [ inl e ↦ inr (e ∙ sym hi) | inr e ↦ inl (e ∙ sym lo) ],
      )
]

pub pair_is : (a b : ℕ) (coupled joined bonded : Bool) →
    IsPair a b coupled joined bonded (pair_answers (min a b) (max a b) coupled joined bonded)
pair_is a b coupled joined bonded =
    let lo : ℕ = min a b in
    let hi : ℕ = max a b in
    record {
      kept = λ n. (λ k. (ends_of a b n).0 ((two_keeps lo hi n).0 k), λ h. (two_keeps lo hi n).1 ((ends_of a b n).1 h));
      coupled_pair = two_labels_same lo hi coupled;
      joined_pair = two_labels_same lo hi joined;
      bonded_pair = two_labels_same lo hi bonded;
      no_energisable = two_unmarked lo hi;
      no_earthable = two_unmarked lo hi;
      no_fed = two_unmarked lo hi;
      no_loaded = two_unmarked lo hi;
    }
