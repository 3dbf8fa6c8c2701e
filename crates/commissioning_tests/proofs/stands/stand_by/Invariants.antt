use Rattle.std.proofs.Common.{◌≡◌, length}
use Rattle.commissioning_tests.specs.Standing.{AreStanding}
use Rattle.commissioning_tests.proofs.stands.stand_by.Given as goal

abbrev pub invariant-loop-s : goal.invariant-loop-s
invariant-loop-s l = (length l.stands.items ≡ length l.initial.stands.items) × AreStanding l.station l.first.0 l.count l.stands.items
