use Rattle.std.proofs.Common.{◌++◌, ◌∙◌, [], ap, arith}
use Rattle.std.specs.Prelude.{if◌then◌else◌}
use Rattle.program_text.specs.ProgramText.{block_text}
use Rattle.program_text.specs.BayText.{is_called_for, bay_blocks_text}
use Rattle.program_text.proofs.TextLemmas.{bay_blocks_more}
use Rattle.program_text.proofs.bay_text.write_bay_blocks.Goals as goal

pub loop-block-preserved : goal.loop-block-preserved
loop-block-preserved c =
    let d = c.args.station.now in
    let steps = c.args.steps.now in
    let p = c.args.bay.0 in
    let k = c.loop-block.number in
    let test = c.loop-block-test.true in
    let below = c.loop-block.invariant.1 in (
      bay_blocks_more d steps p c.args.blocks.now c.loop-block.block-index k _
          (c.args.text.now ++ bay_blocks_text d steps p 0 c.args.blocks.now) c.loop-block.text _ (omega (arith, test))
          (c.in_ok-write_called.ensures
          ∙ ap (λ b. c.loop-block.text ++ (if is_called_for p k steps then block_text d k b else [])) c.block-item.is)
          c.loop-block.invariant.0,
      omega (arith, below),
    )
