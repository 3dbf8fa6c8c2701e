use Rattle.std.proofs.Common.{◌≡◌, length}
use Rattle.commissioning_tests.specs.Standing.{AreStanding}
use Rattle.commissioning_tests.proofs.stands.stand_for_part.Given as goal

abbrev pub invariant-loop-one : goal.invariant-loop-one
invariant-loop-one l = (length l.stands.items ≡ length l.initial.stands.items) × AreStanding l.station l.first.0 l.count l.stands.items
