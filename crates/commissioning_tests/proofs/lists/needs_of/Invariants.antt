use Rattle.std.proofs.Common.{map}
use Rattle.std.specs.List.{range_with_len}
use Rattle.commissioning_tests.specs.Covering.{IsNeeded}
use Rattle.commissioning_tests.specs.Listed.{AreThose}
use Rattle.commissioning_tests.proofs.lists.needs_of.Given as goal

abbrev pub invariant-loop-s : goal.invariant-loop-s
invariant-loop-s l =
    AreThose (IsNeeded l.station l.operations l.first.0 l.count) (range_with_len 0 l.s) (map (λ s. s.0) l.needs.items)
