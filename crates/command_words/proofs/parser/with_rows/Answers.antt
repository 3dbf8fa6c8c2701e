use Rattle.std.proofs.Common.{◌∙◌, ap, arith}
use Rattle.clap.specs.Words.{App, app_of, with_subcommand}
use Rattle.command_words.specs.Rows.{has_few_words}
use Rattle.command_words.proofs.FindLemmas.{all-at}
use Rattle.command_words.proofs.LoopLemmas.{row_more}
use Rattle.command_words.proofs.parser.with_rows.Goals as goal

pub loop-row-preserved : goal.loop-row-preserved
loop-row-preserved c =
    row_more c.args.rows.now c.loop-row.row-index _ (app_of c.args.line) (app_of c.loop-row.line)
    (app_of c.in_ok-line.line) (omega arith) c.loop-row.invariant
    (c.in_ok-line.ensures.shape c.in_ok-row_command.ensures.local
    ∙ ap (λ (a : App). with_subcommand (app_of c.loop-row.line) a.top) c.in_ok-row_command.ensures.app)

pub row_command-requires : goal.row_command-requires
row_command-requires c =
    all-at has_few_words c.args.rows.now c.loop-row.row-index _ c.requires c.loop-row-test.true
