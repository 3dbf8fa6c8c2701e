use Rattle.std.proofs.Common.{◌++◌, ◌∙◌, ap, arith}
use Rattle.program_text.specs.ProgramText.{block_text, blocks_text}
use Rattle.program_text.proofs.TextLemmas.{blocks_more}
use Rattle.program_text.proofs.block_text.write_blocks.Goals as goal

pub loop-block-preserved : goal.loop-block-preserved
loop-block-preserved c =
    let d = c.args.station.now in
    let test = c.loop-block-test.true in
    let below = c.loop-block.invariant.1 in (
      blocks_more d c.args.blocks.now c.loop-block.block-index c.loop-block.number _
          (c.args.text.now ++ blocks_text d 0 c.args.blocks.now) c.loop-block.text _ (omega (arith, test))
          (c.in_ok-write_block.ensures
          ∙ ap (λ b. c.loop-block.text ++ block_text d c.loop-block.number b) c.block-item.is) c.loop-block.invariant.0,
      omega (arith, below),
    )
