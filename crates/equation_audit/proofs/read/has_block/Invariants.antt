use Rattle.std.proofs.Common.{take}
use Rattle.equation_audit.specs.BlockLines.{HasBlock}
use Rattle.equation_audit.proofs.read.has_block.Given as goal

abbrev pub invariant-loop-block : goal.invariant-loop-block
invariant-loop-block l = ¬ HasBlock (take l.block-index l.blocks) l.op
