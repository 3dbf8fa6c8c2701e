use Rattle.std.proofs.Common.{arith, refl, ◌^◌, ◌+◌, length, take}
use Rattle.std.specs.List.{flat_map}
use Rattle.std.proofs.lemmas.Option.{slice_get_read}
use Rattle.reservation_core.specs.Lines.{message, messages}
use Rattle.reservation_core.specs.ReportLines.{message_line}
use Rattle.log_replay.proofs.ReportLemmas.{appended, message_lines_more, numbers_below}
use Rattle.log_replay.proofs.report_lines.push_messages.Goals as goal

pub overflow_cast-i : goal.overflow_cast-i
overflow_cast-i c = let it = numbers_below (2 ^ 32) c.args.first c.args.frames.now c.loop-i.i c.loop-i-test.true
    c.requires in omega (arith, it)

pub overflow_add-first : goal.overflow_add-first
overflow_add-first c = let it = numbers_below (2 ^ 32) c.args.first c.args.frames.now c.loop-i.i c.loop-i-test.true
    c.requires in omega (arith, it)

pub loop-i-preserved : goal.loop-i-preserved
loop-i-preserved c =
    let frames = c.args.frames.now in
    let frame = c.index-frames-i.result in
    let got = slice_get_read frames (length frames) c.loop-i.i frame refl c.loop-i-test.true c.index-frames-i.is in
    appended c.args.text.now c.loop-i.text c.push_message.new.text (flat_map (message_line c.args.line)
    (messages c.args.first (take c.loop-i.i frames)))
    (message_line c.args.line (message (c.args.first + c.loop-i.i) frame)) _
    c.in_ok-push_message.ensures c.loop-i.invariant (message_lines_more c.args.line c.args.first frames c.loop-i.i frame
    got (omega (arith, c.loop-i-test.true)))
