use Rattle.std.proofs.Common.{◌≡◌, ℕ, ◌<◌, slice_get, Some}
use Rattle.commissioning_tests.specs.declared.values.TestPosition.{TestPosition}
use Rattle.commissioning_tests.specs.Covering.{TurnIsAmong}
use Rattle.commissioning_tests.proofs.shown.is_turn_shown.Given as goal

abbrev pub invariant-loop-i : goal.invariant-loop-i
invariant-loop-i l =
    (i : ℕ) (p : TestPosition) → i < l.i → slice_get l.positions i ≡ Some p →
    ¬ TurnIsAmong p.answers.items p.moves.items l.k l.switch.0
