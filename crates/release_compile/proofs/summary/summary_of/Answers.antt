use Rattle.std.proofs.Common.{◌∙◌, arith}
use Rattle.judge_pool.specs.Lettered.{lettered}
use Rattle.release_compile.proofs.SummaryLemmas.{summarises}
use Rattle.release_compile.proofs.summary.summary_of.Goals as goal

pub returns : goal.returns
returns c d to station alphabets =
    summarises (lettered d c.args.parts.now) c.args.bay.0 to c.args.readings.now c.in_ok-set.set c.row_of-row.result
    (record { station = station; alphabets = alphabets })
    (omega (arith, c.requires.part, alphabets.parts))
    (c.requires.readings ∙ alphabets.switches)
    c.row_of-row.ensures
    c.in_ok-set.ensures.count
    (c.in_ok-set.ensures.possible d alphabets).exact
