-- The other switches of a bay, by their numbers, and choices of them.
use Rattle.std.proofs.Common.{◌≡◌, ◌≢◌, ℕ, ◌+◌, ◌-◌, ◌<◌, ◌≤◌, ◌⊎◌, suc, Bool, true, false, eqb, ltb, List, [], ◌∷◌}
use Rattle.std.proofs.Common.{length, drop, slice_get, Some, refl, sym, ap, ◌∙◌, inl, inr, arith}
use Rattle.std.specs.Prelude.{if◌then◌else◌}
use borrow.Author.Tests.{ltb-true, lt-ltb}
use Rattle.std.proofs.lemmas.Bool.{cases_lt, false≢true}
use Rattle.std.proofs.lemmas.Option.{slice_get_cases}
use Rattle.judge_pool.specs.Graphs.{other_of}

pub other_cases : (first m i : ℕ) →
    ((first + i < m) × (other_of first m i ≡ first + i)) ⊎ ((m ≤ first + i) × (other_of first m i ≡ suc (first + i)))
other_cases first m i = by (ltb (first + i) m) refl
  where
    by : (t : Bool) → ltb (first + i) m ≡ t →
        ((first + i < m) × (other_of first m i ≡ first + i))
        ⊎ ((m ≤ first + i) × (other_of first m i ≡ suc (first + i)))
    by true e = inl (ltb-true (first + i) m e, ap (λ t. if t then first + i else suc (first + i)) e)
    by false e = inr (
      elim (cases_lt (first + i) m) [
        | inl less ↦ absurd (false≢true (sym e ∙ lt-ltb (first + i) m less))
        | inr more ↦ more
      ],
      ap (λ t. if t then first + i else suc (first + i)) e,
    )

-- it is one of the bay's
pub other_in : (first m others i : ℕ) → i < others →
    (first ≤ other_of first m i) × (other_of first m i < first + suc others)
other_in first m others i lt = elim (other_cases first m i) [
  | inl below ↦ (omega (arith, below.1), omega (arith, below.1, lt))
  | inr above ↦ (omega (arith, above.1), omega (arith, above.1, lt))
]

-- each switch of the bay is the moved one or one of the others
pub own_place : (first m others i : ℕ) → first ≤ m → m < first + suc others → first ≤ i → i < first + suc others →
    i ≢ m → (k : ℕ) × (k < others) × (other_of first m k ≡ i)
own_place first m others i from below at_least at_most ne = elim (cases_lt i m) [
  | inl less ↦ (
    i - first,
    omega (arith, at_least, less, below),
    elim (other_cases first m (i - first)) [
      | inl x ↦ x.1 ∙ omega (arith, at_least)
      | inr x ↦ absurd (omega (arith, x.0, at_least, less))
    ],
  )
  | inr more ↦ (
    i - suc first,
    omega (arith, from, more, ne, at_most),
    elim (other_cases first m (i - suc first)) [
      | inl x ↦ absurd (omega (arith, x.0, from, more, ne))
      | inr x ↦ x.1 ∙ omega (arith, from, more, ne)
    ],
  )
]

-- the other switches have different numbers, none of them the moved one
pub switches_apart : (first m i j : ℕ) → i < j → other_of first m i ≢ other_of first m j
switches_apart first m i j lt e = elim (other_cases first m i) [
  | inl x ↦ elim (other_cases first m j) [
    | inl y ↦ omega (arith, lt, e, x.1, y.1)
    | inr y ↦ omega (arith, lt, e, x.1, y.1)
  ]
  | inr x ↦ elim (other_cases first m j) [
    | inl y ↦ omega (arith, lt, e, x.0, x.1, y.0, y.1)
    | inr y ↦ omega (arith, lt, e, x.1, y.1)
  ]
]

pub switch_not : (first m i : ℕ) → other_of first m i ≢ m
switch_not first m i e = elim (other_cases first m i) [
  | inl x ↦ omega (arith, e, x.0, x.1)
  | inr x ↦ omega (arith, e, x.0, x.1)
]

-- the choice for a position
pub code : Bool → ℕ
code true = 1
code false = 0

pub code_back : (c : Bool) → (eqb (code c) 1) ≡ c
unfolding code
code_back true = refl
code_back false = refl

pub code_small : (c : Bool) → code c < 2
unfolding code
code_small true = omega arith
code_small false = omega arith

pub element : {X : Type 0} (xs : List X) (i : ℕ) → i < length xs → (x : X) × (slice_get xs i ≡ Some x)
element xs i h = elim ((slice_get_cases xs i).1) [ inl w ↦ (w.0, w.2) | inr w ↦ absurd (omega (arith, w.0)) ]

pub length_after : {X : Type 0} (n : ℕ) (sets : List X) → length sets ≡ suc n → length (drop 1 sets) ≡ n
length_after n [] e = absurd (omega (arith, e))
length_after n (s ∷ ss) e = omega (arith, e)
