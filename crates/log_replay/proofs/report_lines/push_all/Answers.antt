use Rattle.std.proofs.Common.{arith, refl, ◌+◌, length, take, map}
use Rattle.std.proofs.lemmas.Option.{slice_get_read}
use Rattle.reservation_core.specs.ReportLines.{all_lines, shown_lines}
use Rattle.log_replay.specs.Replay.{ShownFits, shown_at}
use Rattle.log_replay.proofs.ReportLemmas.{appended, all_shown_more, mapped_each}
use Rattle.log_replay.proofs.report_lines.push_all.Goals as goal

pub push_shown-requires : goal.push_shown-requires
push_shown-requires c =
    let outs = c.args.outcomes.now in
    mapped_each (ShownFits c.args.station.now) shown_at outs c.loop-i.i c.index-outcomes-i.result c.requires.fits
    (slice_get_read outs (length outs) c.loop-i.i c.index-outcomes-i.result refl c.loop-i-test.true
    c.index-outcomes-i.is)

pub loop-i-preserved : goal.loop-i-preserved
loop-i-preserved c =
    let outs = c.args.outcomes.now in
    let d = c.args.station.now in
    let o = c.index-outcomes-i.result in
    let got = slice_get_read outs (length outs) c.loop-i.i o refl c.loop-i-test.true c.index-outcomes-i.is in
    appended c.args.text.now c.loop-i.text c.push_shown.new.text (all_lines d (map shown_at (take c.loop-i.i outs)))
    (shown_lines d (c.loop-i.i + 1) (shown_at o)) _
    c.in_ok-push_shown.ensures c.loop-i.invariant (all_shown_more d outs c.loop-i.i o got
    (omega (arith, c.loop-i-test.true)))
