-- One item more of the front of a list.
use Rattle.std.proofs.Common.{◌≡◌, ◌+◌, ℕ, zero, suc, List, [], ◌∷◌, ◌++◌, Some, ap, take, ◌∙◌, add-one}
use Rattle.std.specs.Prelude.{slice_get}

next_taken : {X : Type 0} (xs : List X) (k : ℕ) (x : X) → slice_get xs k ≡ Some x → take (suc k) xs ≡ take k xs ++ x ∷ []
next_taken [] k x at = absurd (cc)
next_taken {X} (y ∷ xs) zero x at = let e : y ≡ x = cc in ap (λ (z : X). z ∷ []) e
next_taken {X} (y ∷ xs) (suc k) x at = ap (λ (zs : List X). y ∷ zs) (next_taken xs k x at)

pub take_next : {X : Type 0} (xs : List X) (k : ℕ) (x : X) → slice_get xs k ≡ Some x
    → take (k + 1) xs ≡ take k xs ++ x ∷ []
take_next {X} xs k x at = ap (λ n. take n xs) (add-one k) ∙ next_taken xs k x at
