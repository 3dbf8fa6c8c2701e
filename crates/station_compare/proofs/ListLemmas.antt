-- Lists with an entry for each place grow by one.
use Rattle.std.proofs.Common.{◌≡◌, ◌⊎◌, ℕ, ◌+◌, ◌<◌, zero, suc, get_or, List, [], ◌∷◌, ◌++◌, length, slice_get, Some}
use Rattle.std.proofs.Common.{refl, sym, ap, ◌∙◌, subst, inl, inr, arith}
use Rattle.std.proofs.lemmas.List.{length-append}
use Rattle.std.proofs.lemmas.Bool.{cases_eq}
use Rattle.std.proofs.lemmas.Option.{same_Some, slice_get-get_or}
use Rattle.station_compare.specs.Each.{AreEach}

pushed_cases : {X : Type 0} (xs : List X) (y : X) (k : ℕ) (x : X) → slice_get (xs ++ y ∷ []) k ≡ Some x →
    (slice_get xs k ≡ Some x) ⊎ ((k ≡ length xs) × (y ≡ x))
pushed_cases [] y zero x e = inr (refl, same_Some y x e)
pushed_cases [] y (suc k) x e = cc
pushed_cases (z ∷ zs) y zero x e = inl e
pushed_cases (z ∷ zs) y (suc k) x e = elim (pushed_cases zs y k x e) [
  | inl a ↦ inl a
  | inr b ↦ inr (ap suc b.0, b.1)
]

pub each_first : {X : Type 0} (Is : ℕ → X → Type 0) → AreEach Is 0 []
each_first Is = record { count = refl; each = λ k x e. cc }

pub each_next : {X : Type 0} (Is : ℕ → X → Type 0) (n : ℕ) (xs : List X) (y : X) → AreEach Is n xs → Is n y →
    AreEach Is (n + 1) (xs ++ y ∷ [])
each_next Is n xs y h p = record {
  count = omega (arith, length-append xs (y ∷ []), h.count);
  each = λ k x e. elim (pushed_cases xs y k x e) [
    | inl a ↦ h.each k x a
    | inr b ↦ subst (λ j. Is j x) (sym (b.0 ∙ h.count)) (subst (λ z. Is n z) b.1 p)
  ];
}

-- ---- what stands at a place

pub at_index : {X : Type 0} (xs : List X) (i j : ℕ) (x : X) → x ≡ get_or xs i x → i ≡ j → j < length xs →
    slice_get xs j ≡ Some x
at_index xs i j x is e lt = slice_get-get_or xs j x lt ∙ ap Some (ap (λ k. get_or xs k x) (sym e) ∙ sym is)

-- what holds of the elements below a place, and of that at it
pub below_next : {X : Type 0} (Is : X → Type 0) (xs : List X) (i : ℕ) (x : X) → i < length xs → x ≡ get_or xs i x → Is x →
    ((k : ℕ) (y : X) → k < i → slice_get xs k ≡ Some y → Is y) → (k : ℕ) (y : X) → k < i + 1 →
    slice_get xs k ≡ Some y → Is y
below_next Is xs i x lt is here below k y less at = elim (cases_eq k i) [
  | inl e ↦ subst Is (same_Some x y (sym (at_index xs i k x is (sym e) (omega (arith, lt, e))) ∙ at)) here
  | inr ne ↦ below k y (omega (arith, less, ne)) at
]
