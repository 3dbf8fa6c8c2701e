use Rattle.std.proofs.Common.{◌≡◌, length}
use Rattle.test_commands.proofs.orders.words.Given as goal

abbrev pub invariant-loop-i : goal.invariant-loop-i
invariant-loop-i l = length l.words ≡ length l.station.switches
