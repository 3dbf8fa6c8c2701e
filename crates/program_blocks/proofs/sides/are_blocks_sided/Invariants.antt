use Rattle.std.proofs.Common.{◌≡◌, ◌<◌, ℕ, slice_get, Some}
use Rattle.structured_text.specs.Sides.{AreSided}
use Rattle.program_blocks.specs.declared.block.Block.{Block}
use Rattle.program_blocks.proofs.sides.are_blocks_sided.Given as goal

abbrev pub invariant-loop-block : goal.invariant-loop-block
invariant-loop-block l =
    (k : ℕ) (b : Block) → k < l.block-index → slice_get l.blocks k ≡ Some b → AreSided b.lines.items
