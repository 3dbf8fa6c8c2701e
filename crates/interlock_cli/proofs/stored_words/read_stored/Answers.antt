use Rattle.std.proofs.Common.{◌≡◌, ◌∙◌, sym, ap, ◌∷◌, map, string_bytes, Some}
use Rattle.std.specs.Prelude.{option_map}
use Rattle.command_words.specs.Rows.{row_words, written}
use Rattle.interlock_cli.specs.StoredWords.{stored_named}
use Rattle.interlock_cli.proofs.StoredNaming.{of_written, unwritten}
use Rattle.interlock_cli.proofs.stored_words.read_stored.Goals as goal

pub returns-in-None : goal.returns-in-None
returns-in-None c = unwritten (map string_bytes c.args.words.now) (sym (ap (option_map row_words) c.in-None.is)
    ∙ c.in_ok-row.ensures)

pub returns-in-Some : goal.returns-in-Some
returns-in-Some c =
    let read = c.in-Some.row in
    let is : Some (row_words read) ≡ written (map string_bytes c.args.words.now) =
    sym (ap (option_map row_words) c.in-Some.is) ∙ c.in_ok-row.ensures in
    of_written (map string_bytes c.args.words.now) (row_words read) is
    ∙ sym (ap (λ ws. stored_named (read.name.now ∷ map (λ w. w.now) ws)) c.deref.ensures.value)
    ∙ c.stored_named.ensures
