-- What is read of the matches.
use Rattle.std.proofs.Common.{◌≡◌, ◌∙◌, ap, ap₂, sym, refl, ℕ, Bool, true, false, List, [], ◌∷◌, Option, Some, None}
use Rattle.std.proofs.Common.{map, option_map, inl, inr}
use Rattle.std.specs.Prelude.{find, option_and_then, slice_get}
use Rattle.std.specs.Borrow.{Bor}
use Rattle.std.specs.List.{filter_map}
use Rattle.std.specs.Str.{bytes_eq}
use Rattle.std.proofs.lemmas.Bool.{cases_Bool}
use Rattle.clap.specs.Words.{Text, Row, first_of, first_value, found_of, rows_of, subcommand_of, subcommand_name_of}
use Rattle.clap.specs.Words.{subcommand_rows_of}
use Rattle.clap.specs.Walk.{row_of, texts}
use Rattle.clap.specs.Facts.{Entry}
use Rattle.clap.specs.declared.parser.matches.Found.{Found}
use Rattle.clap.specs.declared.parser.matches.ArgMatches.{ArgMatches}
use Rattle.clap.specs.declared.parser.matches.ArgMatches.TheViews.{out-ArgMatches}
use Rattle.command_words.specs.App.{command_line, given, ids}
use Rattle.command_words.proofs.LineLemmas.{Reads}

first_text : (vals : List (Bor Text)) → slice_get (texts vals) 0 ≡ option_map (λ s. s.now) (slice_get vals 0)
first_text [] = refl
first_text (v ∷ vals) = refl

first_entry : (xs : List Entry) (id : Text)
    → option_and_then (λ r. slice_get r.values 0) (find (λ r. bytes_eq r.id id) (map row_of xs))
    ≡ option_and_then (λ a. option_map (λ s. s.now) (slice_get a.vals.items 0))
    (option_map (λ e. e.1) (find (λ e. bytes_eq e.0.now id) xs))
first_entry [] id = refl
first_entry (e ∷ xs) id = elim (cases_Bool (bytes_eq e.0.now id)) [
  | inl same ↦ rw same (first_text e.1.vals.items)
  | inr other ↦ rw other (first_entry xs id)
]

-- what was given is what the rows say
given-rows : (f : Found) → given f ≡ filter_map (λ id. first_of id (rows_of f)) ids
given-rows f = sym (λ i. filter_map (λ id. first_entry f.entries.items id i) ids)

same_name : {S : Type 0} (name : S → Text) (rows : S → List Row) (o : Option S) →
    option_map name o ≡ option_map (λ (p : Text × List Row). p.0) (option_map (λ s. (name s, rows s)) o)
same_name name rows None = refl
same_name name rows (Some s) = refl

-- the name of the command that was read
pub name_read : (m : ArgMatches) (name : Text) (rows_read : List Row) → subcommand_rows_of m ≡ Some (name, rows_read) →
    subcommand_name_of m ≡ Some name
name_read m name rows_read e =
    same_name _ _ (out-ArgMatches m).subcommand ∙ ap (option_map (λ (p : Text × List Row). p.0)) e

-- the words that were read, of a command whose rows are these
pub words_read : (words : List Text) (r : Reads words) (m below : ArgMatches) (name : Text) (items : List Text)
    → subcommand_rows_of m ≡ subcommand_of command_line words
    → Some name ≡ subcommand_name_of m →
    Some (rows_of (found_of below)) ≡ option_map (λ (p : Text × List Row). p.1) (subcommand_rows_of m)
    → items ≡ given (found_of below) → name ∷ items ≡ words
words_read words r m below name items matched named rows_are given_are =
    let entered : subcommand_rows_of m ≡ Some (r.name, r.rows_read) = matched ∙ r.entered in
    let is_name : Some name ≡ Some r.name = named ∙ name_read m r.name r.rows_read entered in
    let is_rows : Some (rows_of (found_of below)) ≡ Some r.rows_read =
    rows_are ∙ ap (option_map (λ (p : Text × List Row). p.1)) entered in
    let same : name ≡ r.name = cc in
    let same_rows : rows_of (found_of below) ≡ r.rows_read = cc in
    ap₂ (λ n ws. n ∷ ws) same
    (given_are ∙ given-rows (found_of below) ∙ ap (λ rs. filter_map (λ id. first_of id rs) ids) same_rows) ∙ r.are
