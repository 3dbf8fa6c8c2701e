use Rattle.std.proofs.Common.{◌∙◌, ◌+◌, sym, ap, refl, length}
use Rattle.std.proofs.lemmas.Option.{slice_get_read}
use Rattle.log_replay.specs.Replay.{is_granted}
use Rattle.log_replay.proofs.ReportLemmas.{many_yes, many_no}
use Rattle.log_replay.proofs.report.granted_count.Goals as goal
use Rattle.log_replay.proofs.report.granted_count.Goals.{then-is_granted, else-is_granted}

pub loop-i-preserved : goal.loop-i-preserved
loop-i-preserved c =
    let outs = c.args.outcomes.now in
    let o = c.index-outcomes-i.result in
    let got = slice_get_read outs (length outs) c.loop-i.i o refl c.loop-i-test.true c.index-outcomes-i.is in
    elim c.if-is_granted.branch [
      | then-is_granted w ↦ w.count-is ∙ ap (λ n. n + 1) c.loop-i.invariant
          ∙ sym (many_yes is_granted outs c.loop-i.i o got (sym c.is_granted.ensures ∙ w.if-is_granted.true))
      | else-is_granted w ↦ w.count-is ∙ c.loop-i.invariant
          ∙ sym (many_no is_granted outs c.loop-i.i o got (sym c.is_granted.ensures ∙ w.if-is_granted.false))
    ]
