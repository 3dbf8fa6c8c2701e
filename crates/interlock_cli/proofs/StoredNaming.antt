-- Words that are of no row name no stored session, so that what is read is what the words name.
use Rattle.std.proofs.Common.{◌≡◌, ◌∙◌, ap, sym, refl, ℕ, true, false, List, [], ◌∷◌, codes, Some, None, inl}
use Rattle.std.proofs.Common.{inr}
use Rattle.std.specs.List.{list_all}
use Rattle.std.specs.Str.{bytes_eq}
use Rattle.std.proofs.lemmas.Bool.{cases_Bool}
use Rattle.std.proofs.lemmas.Slice.Eq.{bytes_eq-Decides}
use Rattle.command_words.specs.Rows.{is_plain, is_row, row_of, written}
use Rattle.interlock_cli.specs.StoredWords.{stored_named, stored_of}

unnamed : (words : List (List ℕ)) → is_row words ≡ false → stored_named words ≡ None
unnamed [] none = refl
unnamed (name ∷ []) none = refl
unnamed (name ∷ a ∷ []) none = refl
unnamed (name ∷ a ∷ b ∷ []) none = refl
unnamed (name ∷ a ∷ b ∷ c ∷ []) none = elim (cases_Bool (bytes_eq name (codes "stored"))) [
  | inl holds ↦
      let same : name ≡ codes "stored" = (bytes_eq-Decides name (codes "stored")).0 holds in
      let found : row_of name ≡ Some (codes "stored", 3, 3) = ap row_of same in
      let other : true ≡ false = rw found at none in
      cc other
  | inr fails ↦ rw fails refl
]
unnamed (name ∷ a ∷ b ∷ c ∷ d ∷ rest) none = refl

-- words that are not of the written form name no stored session
pub unwritten : (words : List (List ℕ)) → None ≡ written words → stored_of words ≡ None
unwritten words none = elim (cases_Bool (list_all is_plain words)) [
  | inr fails ↦ rw fails refl
  | inl plain ↦
      let e : stored_of words ≡ stored_named words = rw plain refl in
      elim (cases_Bool (is_row words)) [
        | inr fails ↦ e ∙ unnamed words fails
        | inl holds ↦
            let some : written words ≡ Some words = rw (plain, holds) refl in
            cc (none, some)
      ]
]

-- words of the written form name what the row names that is read of them
pub of_written : (words row : List (List ℕ)) → Some row ≡ written words → stored_of words ≡ stored_named row
of_written words row are = elim (cases_Bool (list_all is_plain words)) [
  | inr fails ↦
      let none : written words ≡ None = rw fails refl in
      cc (are, none)
  | inl plain ↦
      let e : stored_of words ≡ stored_named words = rw plain refl in
      elim (cases_Bool (is_row words)) [
        | inr fails ↦
            let none : written words ≡ None = rw (plain, fails) refl in
            cc (are, none)
        | inl holds ↦
            let some : written words ≡ Some words = rw (plain, holds) refl in
            let same : row ≡ words = cc (are, some) in
            e ∙ ap stored_named (sym same)
      ]
]
