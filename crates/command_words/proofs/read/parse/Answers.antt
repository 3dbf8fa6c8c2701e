use Rattle.std.proofs.Common.{◌≡◌, ◌≢◌, ◌⊎◌, ◌∙◌, ap, sym, subst, refl, ℕ, Bool, true, false, List, [], ◌∷◌, map}
use Rattle.std.proofs.Common.{option_map, inl, inr, string_bytes, Option, Some, None}
use Rattle.std.specs.Prelude.{IfOk, Result, Ok, Err}
use Rattle.std.specs.List.{list_all}
use Rattle.std.proofs.lemmas.Bool.{cases_Bool}
use Rattle.ilk_base.specs.declared.words.Memory.{Memory}
use Rattle.clap.specs.Words.{App, Text, Kinds, HasKind, fault_of, is_simple, is_simple_and_free, kind_of, rows_of}
use Rattle.clap.specs.Words.{found_of, matches_of, subcommand_of, subcommand_rows_of}
use Rattle.clap.specs.declared.error.Error.{Error}
use Rattle.clap.specs.declared.error.ErrorKind.{ErrorKind}
use Rattle.clap.specs.declared.error.ErrorKind.TheVariants as kind
use Rattle.command_words.specs.declared.row.Row.{Row}
use Rattle.command_words.specs.Rows.{is_plain, is_row, row_words, written}
use Rattle.command_words.specs.App.{command_line}
use Rattle.command_words.proofs.LeafLemmas.{no_flags}
use Rattle.command_words.proofs.LineLemmas.{free, simple, line_exactly, line_reads}
use Rattle.command_words.proofs.ReadLemmas.{name_read, words_read}
use Rattle.command_words.proofs.read.parse.Goals as goal

some_kind : (e : Error) (kinds : Kinds) → HasKind kinds e → kind_of e ≢ kind.OutOfMemory → kinds ≢ []
some_kind e [] (inl memory) other none = other memory
some_kind e [] (inr among) other none = absurd among
some_kind e (k ∷ ks) h other none = cc none

not_written : (words : List Text) → is_row words ≡ false → written words ≡ None
not_written words other = elim (cases_Bool (list_all is_plain words)) [
  | inl plain ↦ rw (plain, other) refl
  | inr some ↦ rw some refl
]

is_written : (words : List Text) → list_all is_plain words ≡ true → is_row words ≡ true → written words ≡ Some words
is_written words plain row = rw (plain, row) refl

refused : (r : Result (Option Row) Memory) (e : Error) (k : ErrorKind) (words : List Text) → k ≡ kind_of e →
    HasKind (fault_of command_line words) e
    → IfOk r (λ o. (o ≡ None) × (k ≢ kind.OutOfMemory)) → (is_row words ≡ true → fault_of command_line words ≡ []) →
    IfOk r (λ o. option_map row_words o ≡ written words)
refused (Err x) e k words is has said none = tt
refused (Ok o) e k words is has said none = elim (cases_Bool (is_row words)) [
  | inl row ↦ absurd (some_kind e (fault_of command_line words) has (λ memory. said.1 (is ∙ memory)) (none row))
  | inr other ↦ ap (option_map row_words) said.0 ∙ sym (not_written words other)
]

pub returns-in-Err : goal.returns-in-Err
returns-in-Err c =
    let words = map string_bytes c.args.words.now in
    let has =
    subst (λ (a : App). is_simple_and_free a ≡ true → HasKind (fault_of a words) c.in-Err.e)
    c.in_ok-command_line.ensures c.in-Err.ensures.kinds free in
    refused c.refusal.result c.in-Err.e c.kind.result words c.kind.ensures has c.refusal.ensures
    (line_exactly words (no_flags words c.requires)).1

pub returns : goal.returns
returns c =
    let words = map string_bytes c.args.words.now in
    let flags = no_flags words c.requires in
    let none =
    subst (λ (a : App). is_simple_and_free a ≡ true → fault_of a words ≡ []) c.in_ok-command_line.ensures
    c.in-Ok.ensures.kinds free in
    let row = (line_exactly words flags).0 none in
    let matched =
    subst (λ (a : App). is_simple a ≡ true →
    (rows_of (found_of c.in-Ok.matches) ≡ matches_of a words)
    × (subcommand_rows_of c.in-Ok.matches ≡ subcommand_of a words)) c.in_ok-command_line.ensures
    c.in-Ok.ensures.matches simple in
    ap Some (words_read words (line_reads words flags row) c.in-Ok.matches c.in-Some.below.now c.in-Some.name.now _
    matched.1 c.in-Some.ensures.name c.in-Some.ensures.rows c.in_ok-words_of.ensures)
    ∙ sym (is_written words c.requires row)
