use Rattle.std.proofs.Common.{ℕ, ◌⊎◌, ◌↔◌}
use Rattle.decision_graphs.specs.Reaching.{IsSet}
use Rattle.decision_graphs.specs.Ways.{IsOneOf, WayNotes}
use Rattle.decision_graphs.proofs.ways.mark_ways.Given as goal

abbrev pub invariant-loop-to : goal.invariant-loop-to
invariant-loop-to l = record {
  marks : (i : ℕ) → IsSet l.seen i ↔ (IsSet l.fn.seen i ⊎ IsOneOf l.to l.next i);
  notes : WayNotes l.to l.shape l.ways l.next l.fn.seen l.seen l.fn.arrivals l.arrivals;
}
