use Rattle.std.proofs.Common.{◌≡◌, length}
use Rattle.commissioning_tests.specs.Standing.{AreStanding}
use Rattle.commissioning_tests.proofs.stands.unsettled.Given as goal

abbrev pub invariant-loop-part : goal.invariant-loop-part
invariant-loop-part l = (length l.stands.items ≡ length l.station.switches) × AreStanding l.station l.first.0 l.count l.stands.items
