use Rattle.std.proofs.Common.{◌≡◌, map, fold, take}
use Rattle.clap.specs.Words.{app_of, with_subcommand}
use Rattle.command_words.specs.Rows.{rows_from}
use Rattle.command_words.specs.App.{row_shape}
use Rattle.command_words.proofs.parser.with_rows.Given as goal

abbrev pub invariant-loop-row : goal.invariant-loop-row
invariant-loop-row l =
    app_of l.line ≡ fold with_subcommand (app_of l.fn.line) (map row_shape (rows_from (take l.row-index l.rows)))
