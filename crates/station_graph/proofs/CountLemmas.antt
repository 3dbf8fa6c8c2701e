-- Counts over lists and over numbers in a row.
use Rattle.std.proofs.Common.{◌≡◌, ◌≢◌, ℕ, ◌+◌, ◌<◌, ◌≤◌, zero, suc, Bool, true, false, cond, List, [], ◌∷◌, ◌++◌}
use Rattle.std.proofs.Common.{slice_get, Some, refl, ◌∙◌, ap, inl, inr, arith}
use Rattle.std.specs.Prelude.{count_by}
use Rattle.std.specs.List.{range_with_len}
use Rattle.std.proofs.lemmas.Bool.{cases_eq}
use Rattle.std.proofs.lemmas.List.Sums.{sum_by-cons, sum_by_push}

-- what one element counts
abbrev pub counted : Bool → ℕ
counted b = cond b 1 0

pub count_by-cons : {X : Type 0} (p : X → Bool) (x : X) (xs : List X) →
    count_by p (x ∷ xs) ≡ counted (p x) + count_by p xs
count_by-cons p x xs = sum_by-cons (λ y. cond (p y) 1 0) x xs

pub counted_no : (b : Bool) → b ≡ false → counted b ≡ 0
counted_no b e = ap counted e

pub counted_yes : (b : Bool) → b ≡ true → counted b ≡ 1
counted_yes b e = ap counted e

module _ {X : Type 0} (p : X → Bool) where
  -- where no element passes the count is 0
  pub count_by-none : (xs : List X) → ((i : ℕ) (x : X) → slice_get xs i ≡ Some x → p x ≡ false) → count_by p xs ≡ 0
  count_by-none [] h = refl
  count_by-none (x ∷ xs) h =
      let first = count_by-cons p x xs in
      let here = counted_no (p x) (h 0 x refl) in
      let rest = count_by-none xs (λ i y e. h (suc i) y e) in
      omega arith

  -- where an element passes the count is not 0
  pub count_by-some : (xs : List X) (i : ℕ) (x : X) → slice_get xs i ≡ Some x → p x ≡ true → 0 < count_by p xs
  count_by-some [] i x e h = cc
  count_by-some (y ∷ ys) zero x e h =
      let same : y ≡ x = cc in
      let first = count_by-cons p y ys in
      let here = counted_yes (p y) (ap p same ∙ h) in
      omega arith
  count_by-some (y ∷ ys) (suc i) x e h =
      let first = count_by-cons p y ys in
      let rest = count_by-some ys i x e h in
      omega arith

  pub count_by-push : (xs : List X) (x : X) → count_by p (xs ++ x ∷ []) ≡ count_by p xs + counted (p x)
  count_by-push xs x = sum_by_push (λ y. cond (p y) 1 0) xs x

-- two tests that agree from a on count the same numbers from a on
pub count_range-same : (f g : ℕ → Bool) (a n : ℕ) → ((j : ℕ) → a ≤ j → f j ≡ g j) →
    count_by g (range_with_len a n) ≡ count_by f (range_with_len a n)
count_range-same f g a zero h = refl
count_range-same f g a (suc n) h =
    let first_f = count_by-cons f a (range_with_len (a + 1) n) in
    let first_g = count_by-cons g a (range_with_len (a + 1) n) in
    let here : counted (f a) ≡ counted (g a) = ap counted (h a (omega arith)) in
    let rest = count_range-same f g (a + 1) n (λ j le. h j (omega arith)) in
    omega arith

-- one more number passes
pub count_range-one : (f g : ℕ → Bool) (k a n : ℕ) → a ≤ k → k < a + n → f k ≡ false → g k ≡ true →
    ((j : ℕ) → j ≢ k → f j ≡ g j) → count_by g (range_with_len a n) ≡ count_by f (range_with_len a n) + 1
count_range-one f g k a zero low high without with_it h = absurd (omega arith)
count_range-one f g k a (suc n) low high without with_it h =
    let first_f = count_by-cons f a (range_with_len (a + 1) n) in
    let first_g = count_by-cons g a (range_with_len (a + 1) n) in
    elim (cases_eq a k) [
      | inl e ↦
          let f_here = counted_no (f a) (ap f e ∙ without) in
          let g_here = counted_yes (g a) (ap g e ∙ with_it) in
          let rest = count_range-same f g (a + 1) n (λ j le. h j (λ s. absurd (omega arith))) in
          omega arith
      | inr ne ↦
          let here : counted (f a) ≡ counted (g a) = ap counted (h a ne) in
          let rest = count_range-one f g k (a + 1) n (omega arith) (omega arith) without with_it h in
          omega arith
    ]

-- a row that is one number longer
pub count_range-more : (f : ℕ → Bool) (a n k : ℕ) → a + n ≡ k → f k ≡ false → count_by f (range_with_len a (suc n))
    ≡ count_by f (range_with_len a n)
count_range-more f a zero k at_k without =
    let here : f a ≡ false = ap f (omega arith) ∙ without in
    let first = count_by-cons f a [] in
    let not_here = counted_no (f a) here in
    omega arith
count_range-more f a (suc n) k at_k without =
    let short = count_by-cons f a (range_with_len (a + 1) n) in
    let long = count_by-cons f a (range_with_len (a + 1) (suc n)) in
    let rest = count_range-more f (a + 1) n k (omega arith) without in
    omega arith
