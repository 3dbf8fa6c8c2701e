use Rattle.std.proofs.Common.{map}
use Rattle.std.specs.List.{range_with_len}
use Rattle.commissioning_tests.specs.Listed.{AreThose}
use Rattle.commissioning_tests.specs.Shared.{IsLater}
use Rattle.commissioning_tests.proofs.leads.like_of.Given as goal

abbrev pub invariant-loop-part : goal.invariant-loop-part
invariant-loop-part l =
    AreThose (IsLater l.station l.leads l.one.0) (range_with_len 0 l.part) (map (λ b. b.0) l.like.items)
