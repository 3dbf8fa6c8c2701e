use Rattle.std.proofs.Common.{◌≡◌, drop, []}
use Rattle.program_blocks.specs.Wiring.{AreWired, known_after}
use Rattle.program_blocks.proofs.wiring.known_behind.Given as goal

abbrev pub invariant-loop-step : goal.invariant-loop-step
invariant-loop-step l =
    (AreWired l.blocks l.known.items (drop l.step-index l.steps) → AreWired l.blocks [] l.steps)
    × (known_after l.blocks l.known.items (drop l.step-index l.steps) ≡ known_after l.blocks [] l.steps)
