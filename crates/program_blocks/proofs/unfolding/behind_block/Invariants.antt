use Rattle.std.proofs.Common.{◌≡◌, ◌++◌, List, map, drop}
use Rattle.structured_text.specs.declared.line.Line.{Line}
use Rattle.program_blocks.specs.Calls.{bare}
use Rattle.program_blocks.specs.Renaming.{outer_line}
use Rattle.program_blocks.proofs.unfolding.behind_block.Given as goal

abbrev pub invariant-loop-line : goal.invariant-loop-line
invariant-loop-line l =
    (more : List Line) →
    map (λ (x : Line). bare x) (drop l.next l.lines)
    ≡ map (λ (x : Line). outer_line l.call x) (drop l.line-index l.inner) ++ more →
    map (λ (x : Line). bare x) (drop l.from l.lines) ≡ map (λ (x : Line). outer_line l.call x) l.inner ++ more
