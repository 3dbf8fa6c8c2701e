use Rattle.std.proofs.Common.{◌≡◌, ◌≢◌, ◌<◌, ◌⊎◌, ℕ, List, length}
use Rattle.std.specs.Prelude.{◌↔◌}
use Rattle.decision_graphs.specs.Label.{Layer}
use Rattle.decision_graphs.specs.Reaching.{AreSetsOf, IsSet, set_at}
use Rattle.release_compile.proofs.sets.allow_marked.Given as goal

abbrev pub invariant-loop-choice : goal.invariant-loop-choice
invariant-loop-choice l = record {
  count : length l.sets ≡ length l.fn.sets;
  lens : (j : ℕ) → length (set_at l.sets j) ≡ length (set_at l.fn.sets j);
  sets : (ls : List Layer) → AreSetsOf ls l.fn.sets → AreSetsOf ls l.sets;
  here : (c : ℕ) → IsSet (set_at l.sets l.layer) c ↔
      (IsSet (set_at l.fn.sets l.layer) c ⊎ ((c < l.choice) × IsSet l.marks c));
  others : (j : ℕ) → j ≢ l.layer → set_at l.sets j ≡ set_at l.fn.sets j;
}
