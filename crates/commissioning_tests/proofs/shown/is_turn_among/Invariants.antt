use Rattle.std.proofs.Common.{◌≡◌, ℕ, ◌<◌, slice_get, Some}
use Rattle.commissioning_tests.specs.declared.values.TestMove.{TestMove}
use Rattle.commissioning_tests.specs.Answering.{TurnsAt}
use Rattle.commissioning_tests.proofs.shown.is_turn_among.Given as goal

abbrev pub invariant-loop-j : goal.invariant-loop-j
invariant-loop-j l =
    (j : ℕ) (m : TestMove) → j < l.j → slice_get l.moves j ≡ Some m →
    ¬ ((m.switch.0 ≡ l.switch.0) × TurnsAt l.k l.answers m.answers.items)
