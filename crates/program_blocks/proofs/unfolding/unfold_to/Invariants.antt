use Rattle.std.proofs.Common.{◌≡◌, map, drop}
use Rattle.structured_text.specs.declared.line.Line.{Line}
use Rattle.program_blocks.specs.Calls.{bare, unfolded}
use Rattle.program_blocks.proofs.unfolding.unfold_to.Given as goal

abbrev pub invariant-loop-step : goal.invariant-loop-step
invariant-loop-step l =
    unfolded l.blocks (drop l.step-index l.steps) ≡ map (λ (x : Line). bare x) (drop l.next l.lines) →
    unfolded l.blocks l.steps ≡ map (λ (x : Line). bare x) l.lines
