use Rattle.std.proofs.Common.{take}
use Rattle.commissioning_tests.specs.Covering.{IsAlways}
use Rattle.commissioning_tests.specs.Listed.{AreThose}
use Rattle.commissioning_tests.proofs.lists.always_of.Given as goal

abbrev pub invariant-loop-k : goal.invariant-loop-k
invariant-loop-k l = AreThose (IsAlways l.station) (take l.k l.operations) l.always.items
