use Rattle.std.proofs.Common.{◌<◌, ◌++◌, length, arith}
use Rattle.program_text.specs.ProgramText.{inputs_text}
use Rattle.program_text.proofs.TextLemmas.{inputs_more}
use Rattle.program_text.proofs.text.write_inputs.Goals as goal

pub loop-i-preserved : goal.loop-i-preserved
loop-i-preserved c =
    let d = c.args.station.now in
    let count = c.switch_count-i-end.ensures.count in
    let test = c.loop-i-test.true in
    let low : c.loop-i.i < length d.switches = omega (arith, count, test) in
    inputs_more d.switch_paths c.loop-i.i (length d.switches)
    (c.args.text.now ++ inputs_text d.switch_paths 0 (length d.switches)) c.loop-i.text _ low c.in_ok-write_input.ensures
    c.loop-i.invariant
