use Rattle.std.proofs.Common.{drop}
use Rattle.program_blocks.specs.Wiring.{AreLinesWired}
use Rattle.program_blocks.proofs.wiring.are_lines_wired.Given as goal

abbrev pub invariant-loop-line : goal.invariant-loop-line
invariant-loop-line l =
    AreLinesWired l.known l.call l.inner.items (drop l.line-index l.block.lines.items) →
    AreLinesWired l.known l.call l.block.inputs.items l.block.lines.items
