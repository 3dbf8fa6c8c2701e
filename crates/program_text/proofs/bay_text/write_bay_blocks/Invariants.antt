use Rattle.std.proofs.Common.{◌≡◌, ◌++◌, ◌≤◌, drop}
use Rattle.program_text.specs.BayText.{bay_blocks_text}
use Rattle.program_text.proofs.bay_text.write_bay_blocks.Given as goal

abbrev pub invariant-loop-block : goal.invariant-loop-block
invariant-loop-block l =
    (l.text ++ bay_blocks_text l.station l.steps l.bay.0 l.number (drop l.block-index l.blocks)
    ≡ l.fn.text ++ bay_blocks_text l.station l.steps l.bay.0 0 l.blocks)
    × (l.number ≤ l.block-index)
