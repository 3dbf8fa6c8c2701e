use Rattle.std.proofs.Common.{◌≡◌, ◌++◌, ◌≤◌, drop}
use Rattle.program_text.specs.ProgramText.{blocks_text}
use Rattle.program_text.proofs.block_text.write_blocks.Given as goal

abbrev pub invariant-loop-block : goal.invariant-loop-block
invariant-loop-block l =
    (l.text ++ blocks_text l.station l.number (drop l.block-index l.blocks) ≡ l.fn.text ++ blocks_text l.station 0 l.blocks)
    × (l.number ≤ l.block-index)
