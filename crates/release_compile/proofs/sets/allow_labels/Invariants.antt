use Rattle.std.proofs.Common.{◌≡◌, ◌≢◌, ◌<◌, ◌⊎◌, ℕ, List, length}
use Rattle.std.specs.Prelude.{◌↔◌}
use Rattle.decision_graphs.specs.Label.{Layer}
use Rattle.decision_graphs.specs.Reaching.{AreSetsOf, IsSet, set_at}
use Rattle.release_compile.proofs.sets.allow_labels.Given as goal

abbrev pub invariant-loop-label : goal.invariant-loop-label
invariant-loop-label l = record {
  count : length l.inner ≡ length l.fn.inner;
  lens : (j : ℕ) → length (set_at l.inner j) ≡ length (set_at l.fn.inner j);
  sets : (ls : List Layer) → AreSetsOf ls l.fn.inner → AreSetsOf ls l.inner;
  here : (c : ℕ) → IsSet (set_at l.inner 0) c ↔
      (IsSet (set_at l.fn.inner 0) c ⊎ ((c < l.label) × IsSet l.marks.labels c));
  others : (j : ℕ) → j ≢ 0 → set_at l.inner j ≡ set_at l.fn.inner j;
}
