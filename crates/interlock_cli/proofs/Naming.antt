-- Words that are of no row name no command, so that what is read is what the words name.
use Rattle.std.proofs.Common.{◌≡◌, ◌∙◌, ap, sym, refl, ℕ, false, List, [], ◌∷◌, codes, length, Option, Some, None}
use Rattle.std.proofs.Common.{inl, inr}
use Rattle.std.specs.Prelude.{if◌then◌else◌}
use Rattle.std.specs.List.{list_all}
use Rattle.std.specs.Str.{bytes_eq}
use Rattle.std.proofs.lemmas.Bool.{cases_Bool}
use Rattle.std.proofs.lemmas.Slice.Eq.{bytes_eq-Decides}
use Rattle.command_words.specs.Rows.{is_between, is_plain, is_row, row_of, written}
use Rattle.interlock_cli.specs.Commands.{Command, one_word, two_words, one_or_two_words, three_words}
use Rattle.interlock_cli.specs.Commands.{four_words, two_or_four_words, named_command, command_of}
use Rattle.interlock_cli.specs.Commands.{check_of, explain_of, state_of, order_of, replay_of, audit_of, node_of}
use Rattle.interlock_cli.specs.Commands.{make_of, trips_of, plan_of, program_of, compile_of, work_of, station_of}
use Rattle.interlock_cli.specs.Commands.{compare_of, tests_of, why_of}

abbrev Text : Type 0
Text = List ℕ

-- of another number of words than these nothing is named
abbrev Counts : ℕ → ℕ → (List Text → Option Command) → Type 0
Counts least most names = (rest : List Text) → is_between least most (length rest) ≡ false → names rest ≡ None

one : (names : Text → Option Command) → Counts 1 1 (one_word names)
one names [] other = refl
one names (a ∷ []) other = cc other
one names (a ∷ b ∷ rest) other = refl

two : (names : Text → Text → Option Command) → Counts 2 2 (two_words names)
two names [] other = refl
two names (a ∷ []) other = refl
two names (a ∷ b ∷ []) other = cc other
two names (a ∷ b ∷ c ∷ rest) other = refl

either : (one : Text → Option Command) (two : Text → Text → Option Command) → Counts 1 2 (one_or_two_words one two)
either one two [] other = refl
either one two (a ∷ []) other = cc other
either one two (a ∷ b ∷ []) other = cc other
either one two (a ∷ b ∷ c ∷ rest) other = refl

three : (names : Text → Text → Text → Option Command) → Counts 3 3 (three_words names)
three names [] other = refl
three names (a ∷ []) other = refl
three names (a ∷ b ∷ []) other = refl
three names (a ∷ b ∷ c ∷ []) other = cc other
three names (a ∷ b ∷ c ∷ d ∷ rest) other = refl

four : (names : Text → Text → Text → Text → Option Command) → Counts 4 4 (four_words names)
four names [] other = refl
four names (a ∷ []) other = refl
four names (a ∷ b ∷ []) other = refl
four names (a ∷ b ∷ c ∷ []) other = refl
four names (a ∷ b ∷ c ∷ d ∷ []) other = cc other
four names (a ∷ b ∷ c ∷ d ∷ e ∷ rest) other = refl

two_or_four : (two : Text → Text → Option Command) (four : Text → Text → Text → Text → Option Command)
    → Counts 2 4 (two_or_four_words two four)
two_or_four two four [] other = refl
two_or_four two four (a ∷ []) other = refl
two_or_four two four (a ∷ b ∷ []) other = cc other
two_or_four two four (a ∷ b ∷ c ∷ []) other = refl
two_or_four two four (a ∷ b ∷ c ∷ d ∷ []) other = cc other
two_or_four two four (a ∷ b ∷ c ∷ d ∷ e ∷ rest) other = refl

module _ (name : Text) (rest : List Text) (none : is_row (name ∷ rest) ≡ false) where
  -- they are not those of this row, nor of the others
  row : (key : Text) (least most : ℕ) (names : List Text → Option Command) (others : Option Command)
      → row_of key ≡ Some (key, least, most) → Counts least most names → others ≡ None →
      (if bytes_eq name key then names rest else others) ≡ None
  row key least most names others is counts later = elim (cases_Bool (bytes_eq name key)) [
    | inl holds ↦
        let same : name ≡ key = (bytes_eq-Decides name key).0 holds in
        let found : row_of name ≡ Some (key, least, most) = ap row_of same ∙ is in
        let other : is_between least most (length rest) ≡ false = rw found at none in
        rw holds (counts rest other)
    | inr fails ↦ rw fails later
  ]

  -- one line for each command, in their order
  rows : named_command (name ∷ rest) ≡ None
  rows =
      row (codes "check") 2 2 check_of _ refl (two _)
      (row (codes "explain") 2 4 explain_of _ refl (two_or_four _ _)
      (row (codes "state") 2 2 state_of _ refl (two _)
      (row (codes "order") 3 3 order_of _ refl (three _)
      (row (codes "replay") 2 2 replay_of _ refl (two _)
      (row (codes "audit") 2 2 audit_of _ refl (two _)
      (row (codes "node") 2 2 node_of _ refl (two _)
      (row (codes "make") 2 2 make_of _ refl (two _)
      (row (codes "compile") 1 1 compile_of _ refl (one _)
      (row (codes "trips") 2 2 trips_of _ refl (two _)
      (row (codes "plan") 1 1 plan_of _ refl (one _)
      (row (codes "program") 1 2 program_of _ refl (either _ _)
      (row (codes "work") 1 1 work_of _ refl (one _)
      (row (codes "station") 1 1 station_of _ refl (one _)
      (row (codes "compare") 2 2 compare_of _ refl (two _)
      (row (codes "tests") 1 2 tests_of _ refl (either _ _)
      (row (codes "why") 4 4 why_of _ refl (four _)
      refl))))))))))))))))

unnamed : (words : List Text) → is_row words ≡ false → named_command words ≡ None
unnamed [] none = refl
unnamed (name ∷ rest) none = rows name rest none

-- words that are not of the written form name no command
pub unwritten : (words : List Text) → None ≡ written words → command_of words ≡ None
unwritten words none = elim (cases_Bool (list_all is_plain words)) [
  | inr fails ↦ rw fails refl
  | inl plain ↦
      let e : command_of words ≡ named_command words = rw plain refl in
      elim (cases_Bool (is_row words)) [
        | inr fails ↦ e ∙ unnamed words fails
        | inl holds ↦
            let some : written words ≡ Some words = rw (plain, holds) refl in
            cc (none, some)
      ]
]

-- words of the written form name what the row names that is read of them
pub of_written : (words row : List Text) → Some row ≡ written words → command_of words ≡ named_command row
of_written words row are = elim (cases_Bool (list_all is_plain words)) [
  | inr fails ↦
      let none : written words ≡ None = rw fails refl in
      cc (are, none)
  | inl plain ↦
      let e : command_of words ≡ named_command words = rw plain refl in
      elim (cases_Bool (is_row words)) [
        | inr fails ↦
            let none : written words ≡ None = rw (plain, fails) refl in
            cc (are, none)
        | inl holds ↦
            let some : written words ≡ Some words = rw (plain, holds) refl in
            let same : row ≡ words = cc (are, some) in
            e ∙ ap named_command (sym same)
      ]
]
