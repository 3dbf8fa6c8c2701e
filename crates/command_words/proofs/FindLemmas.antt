-- What the first element of a list with a property has.
use Rattle.std.proofs.Common.{◌≡◌, ◌∙◌, sym, ap, refl, Bool, true, false, List, [], ◌∷◌, Option, Some, None, inl, inr}
use Rattle.std.proofs.Common.{◌&&◌, ◌||◌, ◌<◌, ℕ, zero, suc, length, get_or, arith}
use Rattle.std.specs.Prelude.{find}
use Rattle.std.specs.List.{list_all, filter_map}
use Rattle.std.proofs.lemmas.Bool.{cases_Bool}

-- the property
pub find-holds : {A : Type 0} (p : A → Bool) (xs : List A) (x : A) → find p xs ≡ Some x → p x ≡ true
find-holds p [] x found = absurd (cc)
find-holds {A} p (y ∷ xs) x found = elim (cases_Bool (p y)) [
  | inl holds ↦
      let here : Some y ≡ Some x = rw holds at found in
      let same : y ≡ x = cc in
      ap p (sym same) ∙ holds
  | inr fails ↦
      let later : find p xs ≡ Some x = rw fails at found in
      find-holds p xs x later
]

-- both of two tests
pub both : (a b : Bool) → (a && b) ≡ true → (a ≡ true) × (b ≡ true)
both true true e = (refl, refl)
both true false e = absurd (cc)
both false b e = absurd (cc)

-- and what all elements have
pub find-all : {A : Type 0} (p q : A → Bool) (xs : List A) (x : A) → list_all q xs ≡ true → find p xs ≡ Some x →
    q x ≡ true
find-all p q [] x all found = absurd (cc)
find-all {A} p q (y ∷ xs) x all found = elim (cases_Bool (p y)) [
  | inl holds ↦
      let here : Some y ≡ Some x = rw holds at found in
      let same : y ≡ x = cc in
      ap q (sym same) ∙ (both (q y) (list_all q xs) all).0
  | inr fails ↦
      let later : find p xs ≡ Some x = rw fails at found in
      find-all p q xs x (both (q y) (list_all q xs) all).1 later
]

-- what all elements have, at a place
pub all-at : {A : Type 0} (p : A → Bool) (xs : List A) (i : ℕ) (d : A) → list_all p xs ≡ true → i < length xs →
    p (get_or xs i d) ≡ true
all-at p [] i d all lt = absurd (omega (arith, lt))
all-at p (x ∷ xs) zero d all lt = (both (p x) (list_all p xs) all).0
all-at p (x ∷ xs) (suc i) d all lt = all-at p xs i d (both (p x) (list_all p xs) all).1 (omega (arith, lt))
