use Rattle.std.proofs.Common.{◌≡◌, ◌<◌, ℕ, slice_get, length}
use Rattle.std.specs.Prelude.{◌↔◌}
use Rattle.decision_graphs.specs.Reaching.{IsSet}
use Rattle.release_compile.specs.Summaries.{HeardAllows}
use Rattle.release_compile.proofs.sets.heard_marks.Given as goal

abbrev pub invariant-loop-index : goal.invariant-loop-index
invariant-loop-index l = record {
  len : length l.marks.items ≡ l.index;
  each : (c : ℕ) → IsSet l.marks.items c ↔ ((c < l.index) × HeardAllows (slice_get l.heard l.part.0) c);
}
