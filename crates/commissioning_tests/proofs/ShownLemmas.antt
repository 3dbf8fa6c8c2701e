-- What is shown.
use Rattle.std.proofs.Common.{◌≡◌, ℕ, ◌+◌, ◌<◌, ◌⊎◌, List, length, slice_get, Some, get_or, sym, ap, ◌∙◌, subst, inl, inr, arith}
use Rattle.std.proofs.lemmas.Option.{slice_get-get_or, same_Some}

-- an element that is read at a place
pub there : {X : Type 0} (xs : List X) (i : ℕ) (x : X) → i < length xs → x ≡ get_or xs i x → slice_get xs i ≡ Some x
there xs i x lt is = slice_get-get_or xs i x lt ∙ ap Some (sym is)

-- none of one more
pub none_more : {X : Type 0} (P : X → Type 0) (xs : List X) (i : ℕ) (x : X) → slice_get xs i ≡ Some x →
    ((j : ℕ) (y : X) → j < i → slice_get xs j ≡ Some y → ¬ P y) → ¬ P x → (j : ℕ) (y : X) → j < i + 1 →
    slice_get xs j ≡ Some y → ¬ P y
none_more P xs i x at before never j y lt at_y p = elim (cases j i lt) [
  | inl less ↦ before j y less at_y p
  | inr equal ↦ never (subst P (sym (same_Some x y (sym at ∙ (ap (slice_get xs) (sym equal) ∙ at_y)))) p)
]
  where
    cases : (a b : ℕ) → a < b + 1 → (a < b) ⊎ (a ≡ b)
    cases a b less = grind arith
