-- Parts of lists, and their elements.
use Rattle.std.proofs.Common.{◌≡◌, ◌≤◌, ◌<◌, ◌⊎◌, ◌+◌, ◌∷◌, [], zero, suc, inl, inr, ⊎_elim, ℕ, List, false}
use Rattle.std.proofs.Common.{length, take, drop, get_or, refl, ap, arith}
use Rattle.std.proofs.Math.ListN.{replicate}

pub all_false : (n i : ℕ) → get_or (replicate n false) i false ≡ false
all_false zero i = refl
all_false (suc n) zero = refl
all_false (suc n) (suc i) = all_false n i

-- parts with the same elements are one
pub same_part : (n at : ℕ) (xs ys : List ℕ) → length xs ≡ length ys →
    ((k : ℕ) → at ≤ k → k < at + n → get_or xs k 0 ≡ get_or ys k 0) → take n (drop at xs) ≡ take n (drop at ys)
same_part zero at xs ys size each = refl
same_part (suc n) zero [] [] size each = refl
same_part (suc n) zero [] (y ∷ ys) size each = absurd (omega arith)
same_part (suc n) zero (x ∷ xs) [] size each = absurd (omega arith)
same_part (suc n) zero (x ∷ xs) (y ∷ ys) size each =
    let head : x ≡ y = each 0 (omega arith) (omega arith) in
    let tail : take n xs ≡ take n ys =
    same_part n 0 xs ys (omega (arith, size)) (λ k from to. each (suc k) (omega arith) (omega (arith, to))) in
    cc
same_part (suc n) (suc at) [] [] size each = refl
same_part (suc n) (suc at) [] (y ∷ ys) size each = absurd (omega arith)
same_part (suc n) (suc at) (x ∷ xs) [] size each = absurd (omega arith)
same_part (suc n) (suc at) (x ∷ xs) (y ∷ ys) size each =
    same_part (suc n) at xs ys (omega (arith, size))
    (λ k from to. each (suc k) (omega (arith, from)) (omega (arith, to)))

-- xs with the part of ys in the range
abbrev pub merged : ℕ → ℕ → List ℕ → List ℕ → List ℕ
merged zero zero xs ys = xs
merged zero (suc n) (x ∷ xs) (y ∷ ys) = y ∷ merged zero n xs ys
merged (suc at) n (x ∷ xs) (y ∷ ys) = x ∷ merged at n xs ys
merged at n xs ys = xs

pub length-merged : (at n : ℕ) (xs ys : List ℕ) → length (merged at n xs ys) ≡ length xs
length-merged zero zero xs ys = refl
length-merged zero (suc n) [] ys = refl
length-merged zero (suc n) (x ∷ xs) [] = refl
length-merged zero (suc n) (x ∷ xs) (y ∷ ys) = ap suc (length-merged zero n xs ys)
length-merged (suc at) n [] ys = refl
length-merged (suc at) n (x ∷ xs) [] = refl
length-merged (suc at) n (x ∷ xs) (y ∷ ys) = ap suc (length-merged at n xs ys)

pub merged_outside : (at n : ℕ) (xs ys : List ℕ) (k : ℕ) → (k < at) ⊎ (at + n ≤ k) →
    get_or (merged at n xs ys) k 0 ≡ get_or xs k 0
merged_outside zero zero xs ys k out = refl
merged_outside zero (suc n) [] ys k out = refl
merged_outside zero (suc n) (x ∷ xs) [] k out = refl
merged_outside zero (suc n) (x ∷ xs) (y ∷ ys) zero out =
    absurd (⊎_elim (λ h. omega (arith, h)) (λ h. omega (arith, h)) out)
merged_outside zero (suc n) (x ∷ xs) (y ∷ ys) (suc k) out =
    merged_outside zero n xs ys k (⊎_elim (λ h. inl (omega (arith, h))) (λ h. inr (omega (arith, h))) out)
merged_outside (suc at) n [] ys k out = refl
merged_outside (suc at) n (x ∷ xs) [] k out = refl
merged_outside (suc at) n (x ∷ xs) (y ∷ ys) zero out = refl
merged_outside (suc at) n (x ∷ xs) (y ∷ ys) (suc k) out =
    merged_outside at n xs ys k (⊎_elim (λ h. inl (omega (arith, h))) (λ h. inr (omega (arith, h))) out)

pub merged_inside : (at n : ℕ) (xs ys : List ℕ) (k : ℕ) → length xs ≡ length ys → at ≤ k → k < at + n →
    get_or (merged at n xs ys) k 0 ≡ get_or ys k 0
merged_inside zero zero xs ys k size from to = absurd (omega (arith, to))
merged_inside zero (suc n) [] [] k size from to = refl
merged_inside zero (suc n) [] (y ∷ ys) k size from to = absurd (omega arith)
merged_inside zero (suc n) (x ∷ xs) [] k size from to = absurd (omega arith)
merged_inside zero (suc n) (x ∷ xs) (y ∷ ys) zero size from to = refl
merged_inside zero (suc n) (x ∷ xs) (y ∷ ys) (suc k) size from to =
    merged_inside zero n xs ys k (omega (arith, size)) (omega arith) (omega (arith, to))
merged_inside (suc at) n [] [] k size from to = refl
merged_inside (suc at) n [] (y ∷ ys) k size from to = absurd (omega arith)
merged_inside (suc at) n (x ∷ xs) [] k size from to = absurd (omega arith)
merged_inside (suc at) n (x ∷ xs) (y ∷ ys) zero size from to = absurd (omega (arith, from))
merged_inside (suc at) n (x ∷ xs) (y ∷ ys) (suc k) size from to =
    merged_inside at n xs ys k (omega (arith, size)) (omega (arith, from)) (omega (arith, to))
