use Rattle.std.proofs.Common.{◌∙◌, ◌+◌, sym, ap, refl, length}
use Rattle.std.proofs.lemmas.Option.{slice_get_read}
use Rattle.log_replay.specs.Replay.{is_finished}
use Rattle.log_replay.proofs.ReportLemmas.{many_yes, many_no}
use Rattle.log_replay.proofs.report.finished_count.Goals as goal
use Rattle.log_replay.proofs.report.finished_count.Goals.{then-is_finished, else-is_finished}

pub loop-i-preserved : goal.loop-i-preserved
loop-i-preserved c =
    let outs = c.args.outcomes.now in
    let o = c.index-outcomes-i.result in
    let got = slice_get_read outs (length outs) c.loop-i.i o refl c.loop-i-test.true c.index-outcomes-i.is in
    elim c.if-is_finished.branch [
      | then-is_finished w ↦ w.count-is ∙ ap (λ n. n + 1) c.loop-i.invariant
          ∙ sym (many_yes is_finished outs c.loop-i.i o got (sym c.is_finished.ensures ∙ w.if-is_finished.true))
      | else-is_finished w ↦ w.count-is ∙ c.loop-i.invariant
          ∙ sym (many_no is_finished outs c.loop-i.i o got (sym c.is_finished.ensures ∙ w.if-is_finished.false))
    ]
