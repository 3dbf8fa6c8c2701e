-- Lists that are the same place by place.
use Rattle.std.proofs.Common.{◌≡◌, ◌<◌, ℕ, zero, suc, List, [], ◌∷◌, length, slice_get, replicate, Some, refl, arith}
use Rattle.std.proofs.lemmas.Option.{same_Some}

pub same_places : {X : Type 0} (xs ys : List X) → length xs ≡ length ys →
    ((k : ℕ) → k < length xs → slice_get xs k ≡ slice_get ys k) → xs ≡ ys
same_places [] [] e h = refl
same_places [] (y ∷ ys) e h = absurd (omega (arith, e))
same_places (x ∷ xs) [] e h = absurd (omega (arith, e))
same_places (x ∷ xs) (y ∷ ys) e h =
    let first : x ≡ y = same_Some x y (h zero (omega arith)) in
    let rest : xs ≡ ys = same_places xs ys (omega (arith, e)) (λ k low. h (suc k) (omega (arith, low))) in
    rw (first, rest) refl

pub all_same : {X : Type 0} (xs : List X) (n : ℕ) (x : X) → length xs ≡ n →
    ((k : ℕ) → k < n → slice_get xs k ≡ Some x) → xs ≡ replicate n x
all_same [] zero x e h = refl
all_same [] (suc n) x e h = absurd (omega (arith, e))
all_same (y ∷ xs) zero x e h = absurd (omega (arith, e))
all_same (y ∷ xs) (suc n) x e h =
    let first : y ≡ x = same_Some y x (h zero (omega arith)) in
    let rest : xs ≡ replicate n x = all_same xs n x (omega (arith, e)) (λ k low. h (suc k) (omega (arith, low))) in
    rw (first, rest) refl

-- what stands in a place of a list
pub there : {X : Type 0} (xs : List X) (k : ℕ) → k < length xs → (x : X) × (slice_get xs k ≡ Some x)
there [] k low = absurd (omega (arith, low))
there (x ∷ xs) zero low = (x, refl)
there (x ∷ xs) (suc k) low = there xs k (omega (arith, low))
