use Rattle.std.proofs.Common.{◌≡◌, ◌∙◌, sym, ap, ◌∷◌, map, string_bytes, Some}
use Rattle.std.specs.Prelude.{option_map}
use Rattle.command_words.specs.Rows.{row_words, written}
use Rattle.interlock_cli.specs.Commands.{named_command}
use Rattle.interlock_cli.proofs.Naming.{of_written, unwritten}
use Rattle.interlock_cli.proofs.words.read_command.Goals as goal

pub returns-in_default-clause-err : goal.returns-in_default-clause-err
returns-in_default-clause-err c =
    unwritten (map string_bytes c.args.words.now) (sym (ap (option_map row_words) c.in_default.is) ∙ c.in-Ok.ensures)

pub returns-in-Some-named-clause-ok : goal.returns-in-Some-named-clause-ok
returns-in-Some-named-clause-ok c =
    let read = c.in-Some.row in
    let is : Some (row_words read) ≡ written (map string_bytes c.args.words.now) =
    sym (ap (option_map row_words) c.in-Some.is) ∙ c.in-Ok.ensures in
    of_written (map string_bytes c.args.words.now) (row_words read) is
    ∙ sym (ap (λ ws. named_command (read.name.now ∷ map (λ w. w.now) ws)) c.deref.ensures.value)
    ∙ c.in-Some-named.ensures

pub returns-clause-err : goal.returns-clause-err
returns-clause-err c =
    let read = c.in-Some.row in
    let is : Some (row_words read) ≡ written (map string_bytes c.args.words.now) =
    sym (ap (option_map row_words) c.in-Some.is) ∙ c.in-Ok.ensures in
    of_written (map string_bytes c.args.words.now) (row_words read) is
    ∙ sym (ap (λ ws. named_command (read.name.now ∷ map (λ w. w.now) ws)) c.deref.ensures.value)
    ∙ c.in-None.ensures
