use Rattle.std.proofs.Common.{◌≡◌, ◌<◌, ℕ, length}
use Rattle.std.specs.Prelude.{◌↔◌}
use Rattle.decision_graphs.specs.Reaching.{IsSet}
use Rattle.part_alphabets.specs.Alphabets.{InSet}
use Rattle.release_compile.proofs.sets.marks_of.Given as goal

abbrev pub invariant-loop-index : goal.invariant-loop-index
invariant-loop-index l = record {
  len : length l.marks.items ≡ l.index;
  each : (c : ℕ) → IsSet l.marks.items c ↔ ((c < l.index) × InSet l.set c);
}
