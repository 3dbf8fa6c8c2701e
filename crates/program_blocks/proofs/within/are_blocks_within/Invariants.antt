use Rattle.std.proofs.Common.{◌≡◌, ◌<◌, ℕ, slice_get, Some}
use Rattle.program_blocks.specs.declared.block.Block.{Block}
use Rattle.program_blocks.specs.Standing.{BlockWithin}
use Rattle.program_blocks.proofs.within.are_blocks_within.Given as goal

abbrev pub invariant-loop-block : goal.invariant-loop-block
invariant-loop-block l =
    (k : ℕ) (b : Block) → k < l.block-index → slice_get l.blocks k ≡ Some b → BlockWithin l.station b
