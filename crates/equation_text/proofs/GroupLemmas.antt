-- Lines of a group are read in one way.
use Rattle.std.proofs.Common.{◌≡◌, ◌∙◌, ℕ, ◌+◌, ◌<◌, suc, List, [], ◌∷◌, ◌++◌, length, refl, sym}
use Rattle.std.proofs.Common.{ap, subst, arith, Some, append_assoc}
use Rattle.std.specs.Prelude.{codes, slice_get}
use Rattle.std.specs.List.{flat_map, enumerate_from}
use Rattle.station_equations.specs.EquationText.{text_of}
use Rattle.station_equations.proofs.TextLemmas.{text_of-append}

pub text_cons : (l : List ℕ) (ls : List (List ℕ)) (r : List ℕ) → text_of (l ∷ ls) ++ r ≡ l ++ 10 ∷ (text_of ls ++ r)
text_cons l ls r = append_assoc (l ++ codes "\n") (text_of ls) r ∙ append_assoc l (codes "\n") (text_of ls ++ r)

pub text_one : (l r : List ℕ) → text_of (l ∷ []) ++ r ≡ l ++ 10 ∷ r
text_one l r = text_cons l [] r

-- the lines of entries that are numbered from a number on
abbrev pub lines_from : {X : Type 0} → (ℕ → X → List (List ℕ)) → ℕ → List X → List (List ℕ)
lines_from lines n xs = flat_map (λ p. lines p.0 p.1) (enumerate_from n xs)

module _ {X : Type 0} (lines : ℕ → X → List (List ℕ)) (Fits : ℕ → X → Type 0) (one : (n : ℕ) (x y : X) (r s : List ℕ)
    → Fits n x → Fits n y → text_of (lines n x) ++ r ≡ text_of (lines n y) ++ s → (x ≡ y) × (r ≡ s)) where
  -- each entry fits
  abbrev pub AllFit : ℕ → List X → Type 0
  AllFit n xs = (i : ℕ) (x : X) → slice_get xs i ≡ Some x → Fits (n + i) x

  -- no entry follows
  abbrev pub NoMore : ℕ → List ℕ → Type 0
  NoMore n text = (x : X) (rest : List ℕ) → Fits n x → text ≡ text_of (lines n x) ++ rest → ⊥

  pub first_of : (n : ℕ) (x : X) (xs : List X) (r : List ℕ) → text_of (lines_from lines n (x ∷ xs)) ++ r ≡ text_of
      (lines n x) ++ (text_of (lines_from lines (n + 1) xs) ++ r)
  first_of n x xs r = ap (λ t. t ++ r) (text_of-append (lines n x) (lines_from lines (n + 1) xs)) ∙ append_assoc
      (text_of (lines n x)) (text_of (lines_from lines (n + 1) xs)) r

  first_fits : (n : ℕ) (x : X) (xs : List X) → AllFit n (x ∷ xs) → Fits n x
  first_fits n x xs all = let same : n + 0 ≡ n = omega arith in subst (λ k. Fits k x) same (all 0 x refl)

  rest_fit : (n : ℕ) (x : X) (xs : List X) → AllFit n (x ∷ xs) → AllFit (n + 1) xs
  rest_fit n x xs all = λ i y at. let same : n + suc i ≡ n + 1 + i = omega arith in
      subst (λ k. Fits k y) same (all (suc i) y at)

  -- lists of one length
  pub once : (n : ℕ) (xs ys : List X) (r s : List ℕ) → AllFit n xs → AllFit n ys → length xs ≡ length ys
      → text_of (lines_from lines n xs) ++ r ≡ text_of (lines_from lines n ys) ++ s → (xs ≡ ys) × (r ≡ s)
  once n [] [] r s fit_x fit_y len same = (refl, same)
  once n [] (y ∷ ys) r s fit_x fit_y len same = absurd (omega (arith, len))
  once n (x ∷ xs) [] r s fit_x fit_y len same = absurd (omega (arith, len))
  once n (x ∷ xs) (y ∷ ys) r s fit_x fit_y len same =
      let here = one n x y (text_of (lines_from lines (n + 1) xs) ++ r) (text_of (lines_from lines (n + 1) ys) ++ s)
      (first_fits n x xs fit_x) (first_fits n y ys fit_y) (sym (first_of n x xs r) ∙ same ∙ first_of n y ys s) in
      let rest = once (n + 1) xs ys r s (rest_fit n x xs fit_x) (rest_fit n y ys fit_y) (omega (arith, len)) here.1 in
      (ap (λ (z : X). z ∷ xs) here.0 ∙ ap (λ (zs : List X). y ∷ zs) rest.0, rest.1)

  -- where the second list is longer, its next entry follows the first
  pub record Follows (n : ℕ) (text : List ℕ) : Type 0 where
    pub entry : X
    pub fits : Fits n entry
    pub rest : List ℕ
    pub is : text ≡ text_of (lines n entry) ++ rest

  pub next : (n : ℕ) (xs ys : List X) (r s : List ℕ) → AllFit n xs → AllFit n ys → length xs < length ys
      → text_of (lines_from lines n xs) ++ r ≡ text_of (lines_from lines n ys) ++ s → Follows (n + length xs) r
  next n [] [] r s fit_x fit_y less same = absurd (omega (arith, less))
  next n [] (y ∷ ys) r s fit_x fit_y less same =
      let here : n + 0 ≡ n = omega arith in
      subst (λ k. Follows k r) (sym here) (record {
        entry = y;
        fits = first_fits n y ys fit_y;
        rest = text_of (lines_from lines (n + 1) ys) ++ s;
        is = same ∙ first_of n y ys s;
      })
  next n (x ∷ xs) [] r s fit_x fit_y less same = absurd (omega (arith, less))
  next n (x ∷ xs) (y ∷ ys) r s fit_x fit_y less same =
      let here = one n x y (text_of (lines_from lines (n + 1) xs) ++ r) (text_of (lines_from lines (n + 1) ys) ++ s)
      (first_fits n x xs fit_x) (first_fits n y ys fit_y) (sym (first_of n x xs r) ∙ same ∙ first_of n y ys s) in
      let number : n + 1 + length xs ≡ n + suc (length xs) = omega arith in
      subst (λ k. Follows k r) number (next (n + 1) xs ys r s (rest_fit n x xs fit_x) (rest_fit n y ys fit_y) (omega
      (arith, less)) here.1)

  -- lists after which no entry follows
  pub once_ended : (n : ℕ) (xs ys : List X) (r s : List ℕ) → AllFit n xs → AllFit n ys → NoMore (n + length xs) r
      → NoMore (n + length ys) s → text_of (lines_from lines n xs) ++ r ≡ text_of (lines_from lines n ys) ++ s
      → (xs ≡ ys) × (r ≡ s)
  once_ended n [] [] r s fit_x fit_y end_x end_y same = (refl, same)
  once_ended n [] (y ∷ ys) r s fit_x fit_y end_x end_y same =
      let here : n ≡ n + 0 = omega arith in
      absurd (end_x y (text_of (lines_from lines (n + 1) ys) ++ s) (subst (λ k. Fits k y) here
      (first_fits n y ys fit_y)) (same ∙ first_of n y ys s ∙ ap (λ k. text_of (lines k y) ++ (text_of
      (lines_from lines (n + 1) ys) ++ s)) here))
  once_ended n (x ∷ xs) [] r s fit_x fit_y end_x end_y same =
      let here : n ≡ n + 0 = omega arith in
      absurd (end_y x (text_of (lines_from lines (n + 1) xs) ++ r) (subst (λ k. Fits k x) here
      (first_fits n x xs fit_x)) (sym same ∙ first_of n x xs r ∙ ap (λ k. text_of (lines k x) ++ (text_of
      (lines_from lines (n + 1) xs) ++ r)) here))
  once_ended n (x ∷ xs) (y ∷ ys) r s fit_x fit_y end_x end_y same =
      let here = one n x y (text_of (lines_from lines (n + 1) xs) ++ r) (text_of (lines_from lines (n + 1) ys) ++ s)
      (first_fits n x xs fit_x) (first_fits n y ys fit_y) (sym (first_of n x xs r) ∙ same ∙ first_of n y ys s) in
      let count_x : n + suc (length xs) ≡ n + 1 + length xs = omega arith in
      let count_y : n + suc (length ys) ≡ n + 1 + length ys = omega arith in
      let rest = once_ended (n + 1) xs ys r s (rest_fit n x xs fit_x) (rest_fit n y ys fit_y) (subst
      (λ k. NoMore k r) count_x end_x) (subst (λ k. NoMore k s) count_y end_y) here.1 in
      (ap (λ (z : X). z ∷ xs) here.0 ∙ ap (λ (zs : List X). y ∷ zs) rest.0, rest.1)
