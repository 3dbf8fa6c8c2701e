-- Places in lists.
use Rattle.std.proofs.Common.{◌≡◌, ℕ, ◌<◌, zero, suc, List, [], ◌∷◌, ◌++◌, length, slice_get, slice_set, Contains}
use Rattle.std.proofs.Common.{Some, refl, ◌∙◌, ap, arith}
use Rattle.std.proofs.lemmas.Option.{slice_get-get_or}

-- where an element stands
pub place_of : {X : Type 0} (xs : List X) (x : X) → Contains xs x → (i : ℕ) × (slice_get xs i ≡ Some x)
place_of xs x h = (h.0, slice_get-get_or xs h.0 x h.1 ∙ ap Some h.2)

-- an element keeps its place when another comes to the end
pub slice_get-push_old : {X : Type 0} (xs : List X) (y x : X) (i : ℕ) → slice_get xs i ≡ Some x →
    slice_get (xs ++ y ∷ []) i ≡ Some x
slice_get-push_old [] y x i e = cc
slice_get-push_old (z ∷ zs) y x zero e = e
slice_get-push_old (z ∷ zs) y x (suc i) e = slice_get-push_old zs y x i e

pub slice_get-set_same : {X : Type 0} (xs : List X) (i : ℕ) (y : X) → i < length xs →
    slice_get (slice_set xs i y) i ≡ Some y
slice_get-set_same [] i y h = absurd (omega (arith, h))
slice_get-set_same (x ∷ xs) zero y h = refl
slice_get-set_same (x ∷ xs) (suc i) y h = slice_get-set_same xs i y (omega arith)
