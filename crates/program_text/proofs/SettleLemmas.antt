-- What stands somewhere, formula by formula.
use Rattle.std.proofs.Common.{◌≡◌, ◌≢◌, ◌∙◌, ◌<◌, ◌≤◌, ◌+◌, ℕ, List, length, slice_get, Some, sym, subst, inl}
use Rattle.std.proofs.Common.{inr, arith}
use Rattle.std.proofs.lemmas.Bool.{cases_eq}
use Rattle.std.proofs.lemmas.Option.{slice_get_within}
use Rattle.interlock_terms.specs.declared.term.Term.{Term}
use Rattle.program_text.specs.declared.place.Place.{Place}
use Rattle.program_text.specs.Places.{IsNamed, IsInside, IsRead, HaveRisen, EachNamed, IsOfTwo, ReadsAreRead, ArePlaced}
use Rattle.program_text.proofs.PlaceLemmas.{each_risen, two_risen}

-- the first k formulas that stand inside a line are of two that have lines
abbrev pub AreSettled : List Term → ℕ → List Place → Type 0
AreSettled terms k places =
    (n : ℕ) (t : Term) → n < k → slice_get terms n ≡ Some t → IsInside places n → IsOfTwo (IsNamed places) t

pub same_read : (xs ys : List Place) (n : ℕ) → slice_get ys n ≡ slice_get xs n → IsRead ys n → IsRead xs n
same_read xs ys n e h = elim h [ inl k ↦ inl (sym e ∙ k) | inr k ↦ inr (sym e ∙ k) ]

-- the last formula first: one more reads what it names
pub reads_more : (terms : List Term) (k : ℕ) (xs ys : List Place) → HaveRisen xs ys → ReadsAreRead terms (k + 1) xs →
    ((t : Term) → slice_get terms k ≡ Some t → IsRead ys k → EachNamed (IsRead ys) t) →
    ((n : ℕ) → k ≤ n → slice_get ys n ≡ slice_get xs n) → ReadsAreRead terms k ys
reads_more terms k xs ys risen before here others n t high at read = elim (cases_eq n k) [
  | inl e ↦ here t (subst (λ j. slice_get terms j ≡ Some t) e at) (subst (IsRead ys) e read)
  | inr far ↦
      each_risen (IsRead xs) (IsRead ys) risen.read t
      (before n t (omega (arith, high, far)) at (same_read xs ys n (others n high) read))
]

module _ (terms : List Term) (xs ys : List Place) (risen : HaveRisen xs ys)
    (same : (n : ℕ) → IsRead ys n → IsRead xs n) where
  pub reads_stay : ReadsAreRead terms 0 xs → ReadsAreRead terms 0 ys
  reads_stay before n t high at read =
      each_risen (IsRead xs) (IsRead ys) risen.read t (before n t high at (same n read))

  -- one formula more is settled
  pub settled_more : (k : ℕ) (u : Term) → slice_get terms k ≡ Some u → AreSettled terms k xs →
      ((n : ℕ) → n ≢ k → slice_get ys n ≡ slice_get xs n) → (IsInside ys k → IsOfTwo (IsNamed ys) u) →
      AreSettled terms (k + 1) ys
  settled_more k u listed before others here n t low at inside = elim (cases_eq n k) [
    | inl e ↦
        let at_k : slice_get terms k ≡ Some t = subst (λ j. slice_get terms j ≡ Some t) e at in
        let is : u ≡ t = cc (listed, at_k) in
        subst (IsOfTwo (IsNamed ys)) is (here (subst (IsInside ys) e inside))
    | inr far ↦
        two_risen (IsNamed xs) (IsNamed ys) risen.named t
        (before n t (omega (arith, low, far)) at (sym (others n far) ∙ inside))
  ]

pub all_placed : (terms : List Term) (k : ℕ) (xs : List Place) → length terms ≤ k → length xs ≡ length terms →
    ReadsAreRead terms 0 xs → AreSettled terms k xs → ArePlaced terms xs
all_placed terms k xs all len reads settled = record {
  len = len;
  named = λ n t at named. reads n t (omega arith) at (inl named);
  inside = λ n t at inside.
      let within = slice_get_within terms n t at in settled n t (omega (arith, within, all)) at inside;
}
