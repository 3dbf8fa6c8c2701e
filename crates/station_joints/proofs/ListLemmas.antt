-- Elements of lists: after a push, behind a map, and after a write.
use Rattle.std.proofs.Common.{◌≡◌, ℕ, ◌<◌, zero, suc, List, [], ◌∷◌, ◌++◌, length, map, slice_get, slice_set, Some}
use Rattle.std.proofs.Common.{refl, ap, arith}
use Rattle.std.proofs.lemmas.Option.{same_Some}

module _ {X : Type 0} where
  -- an element stays where more follow
  pub get-before : (xs ys : List X) (i : ℕ) (x : X) → slice_get xs i ≡ Some x → slice_get (xs ++ ys) i ≡ Some x
  get-before [] ys i x e = cc
  get-before (z ∷ zs) ys zero x e = e
  get-before (z ∷ zs) ys (suc i) x e = get-before zs ys i x e

  -- what is pushed stands at the end
  pub get-end : (xs : List X) (y : X) → slice_get (xs ++ y ∷ []) (length xs) ≡ Some y
  get-end [] y = refl
  get-end (z ∷ zs) y = get-end zs y

  -- what is written is read
  pub get-set : (xs : List X) (i : ℕ) (x : X) → i < length xs → slice_get (slice_set xs i x) i ≡ Some x
  get-set [] i x lt = absurd (omega arith)
  get-set (z ∷ zs) zero x lt = refl
  get-set (z ∷ zs) (suc i) x lt = get-set zs i x (omega arith)

-- what stands in a list that is mapped
pub map-from : {X Y : Type 0} (f : X → Y) (xs : List X) (i : ℕ) (y : Y) → slice_get (map f xs) i ≡ Some y →
    (x : X) × ((slice_get xs i ≡ Some x) × (f x ≡ y))
map-from f [] i y e = cc
map-from f (z ∷ zs) zero y e = (z, (refl, same_Some (f z) y e))
map-from f (z ∷ zs) (suc i) y e = map-from f zs i y e

pub map-to : {X Y : Type 0} (f : X → Y) (xs : List X) (i : ℕ) (x : X) → slice_get xs i ≡ Some x →
    slice_get (map f xs) i ≡ Some (f x)
map-to f [] i x e = cc
map-to f (z ∷ zs) zero x e = ap (λ y. Some (f y)) (same_Some z x e)
map-to f (z ∷ zs) (suc i) x e = map-to f zs i x e
