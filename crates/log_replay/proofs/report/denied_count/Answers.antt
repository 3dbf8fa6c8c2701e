use Rattle.std.proofs.Common.{◌∙◌, ◌+◌, sym, ap, refl, length}
use Rattle.std.proofs.lemmas.Option.{slice_get_read}
use Rattle.log_replay.specs.Replay.{is_denied}
use Rattle.log_replay.proofs.ReportLemmas.{many_yes, many_no}
use Rattle.log_replay.proofs.report.denied_count.Goals as goal
use Rattle.log_replay.proofs.report.denied_count.Goals.{then-is_denied, else-is_denied}

pub loop-i-preserved : goal.loop-i-preserved
loop-i-preserved c =
    let outs = c.args.outcomes.now in
    let o = c.index-outcomes-i.result in
    let got = slice_get_read outs (length outs) c.loop-i.i o refl c.loop-i-test.true c.index-outcomes-i.is in
    elim c.if-is_denied.branch [
      | then-is_denied w ↦ w.count-is ∙ ap (λ n. n + 1) c.loop-i.invariant
          ∙ sym (many_yes is_denied outs c.loop-i.i o got (sym c.is_denied.ensures ∙ w.if-is_denied.true))
      | else-is_denied w ↦ w.count-is ∙ c.loop-i.invariant
          ∙ sym (many_no is_denied outs c.loop-i.i o got (sym c.is_denied.ensures ∙ w.if-is_denied.false))
    ]
