-- Variables that are taken out of a list are as those of the list.
use Rattle.std.proofs.Common.{◌≡◌, ◌⊎◌, ◌++◌, ◌≤◌, ℕ, zero, suc, List, [], ◌∷◌, Some, length, slice_get, refl, sym, subst, inl, inr, arith}
use Rattle.std.specs.List.{flat_map}
use Rattle.structured_text.specs.declared.name.Name.{Name}
use Rattle.structured_text.specs.declared.name.Name.TheVariants.{Off, On, May, Sure, Opens, Closes}
use Rattle.structured_text.specs.Within.{NameWithin, NamesWithin}
use Rattle.program_text.specs.ProgramText.{if_may, unless_may, if_formula, formula_count}

-- each variable is taken, or it is not
abbrev Takes : (Name → List Name) → Type 0
Takes f = (n : Name) → (f n ≡ []) ⊎ (f n ≡ n ∷ [])

one_more : (count : ℕ) (x : Name) (rest : List Name) → NameWithin count x → NamesWithin count rest →
    (k : ℕ) (n : Name) → slice_get (x ∷ rest) k ≡ Some n → NameWithin count n
one_more count x rest h more zero n at = let is : x ≡ n = cc at in subst (NameWithin count) is h
one_more count x rest h more (suc k) n at = more k n at

one_within : (count : ℕ) (ys : List Name) (x : Name) (rest : List Name) → (ys ≡ []) ⊎ (ys ≡ x ∷ []) →
    NameWithin count x → NamesWithin count rest → NamesWithin count (ys ++ rest)
one_within count ys x rest (inl none) h more = subst (λ zs. NamesWithin count (zs ++ rest)) (sym none) more
one_within count ys x rest (inr one) h more =
    subst (λ zs. NamesWithin count (zs ++ rest)) (sym one) (one_more count x rest h more)

taken_within : (f : Name → List Name) → Takes f → (count : ℕ) (names : List Name) → NamesWithin count names →
    NamesWithin count (flat_map (λ (n : Name). f n) names)
taken_within f takes count [] h = λ k n at. absurd (cc at)
taken_within f takes count (x ∷ xs) h =
    one_within count (f x) x (flat_map (λ (n : Name). f n) xs) (takes x) (h 0 x refl)
    (taken_within f takes count xs (λ k n at. h (suc k) n at))

one_length : (ys : List Name) (x : Name) (rest : List Name) (most : ℕ) → (ys ≡ []) ⊎ (ys ≡ x ∷ []) → length rest ≤ most →
    length (ys ++ rest) ≤ suc most
one_length ys x rest most (inl none) more =
    subst (λ zs. length (zs ++ rest) ≤ suc most) (sym none) (omega (arith, more))
one_length ys x rest most (inr one) more =
    subst (λ zs. length (zs ++ rest) ≤ suc most) (sym one) (omega (arith, more))

taken_length : (f : Name → List Name) → Takes f → (names : List Name) →
    length (flat_map (λ (n : Name). f n) names) ≤ length names
taken_length f takes [] = omega arith
taken_length f takes (x ∷ xs) =
    one_length (f x) x (flat_map (λ (n : Name). f n) xs) (length xs) (takes x) (taken_length f takes xs)

takes_may : Takes if_may
takes_may (Off i) = inl refl
takes_may (On i) = inl refl
takes_may (May k) = inr refl
takes_may (Sure k) = inl refl
takes_may (Opens i) = inl refl
takes_may (Closes i) = inl refl

takes_others : Takes unless_may
takes_others (Off i) = inr refl
takes_others (On i) = inr refl
takes_others (May k) = inl refl
takes_others (Sure k) = inr refl
takes_others (Opens i) = inr refl
takes_others (Closes i) = inr refl

pub may_within : (count : ℕ) (names : List Name) → NamesWithin count names →
    NamesWithin count (flat_map (λ (n : Name). if_may n) names)
may_within count names h = taken_within if_may takes_may count names h

pub others_within : (count : ℕ) (names : List Name) → NamesWithin count names →
    NamesWithin count (flat_map (λ (n : Name). unless_may n) names)
others_within count names h = taken_within unless_may takes_others count names h

takes_formulas : Takes if_formula
takes_formulas (Off i) = inl refl
takes_formulas (On i) = inl refl
takes_formulas (May k) = inr refl
takes_formulas (Sure k) = inr refl
takes_formulas (Opens i) = inl refl
takes_formulas (Closes i) = inl refl

pub formula_count_low : (names : List Name) → formula_count names ≤ length names
formula_count_low names = taken_length if_formula takes_formulas names
