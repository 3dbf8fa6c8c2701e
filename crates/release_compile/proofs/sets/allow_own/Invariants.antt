use Rattle.std.proofs.Common.{◌≡◌, ◌<◌, ◌≤◌, ℕ, suc, List, slice_get, Some, length, eqb}
use Rattle.std.specs.Prelude.{◌↔◌}
use Rattle.ilk_base.specs.declared.words.Dbpos.{Dbpos}
use Rattle.double_points.specs.Words.{Agrees}
use Rattle.decision_graphs.specs.Label.{Layer}
use Rattle.decision_graphs.specs.Reaching.{AreSetsOf, IsSet, set_at}
use Rattle.judge_pool.specs.Graphs.{other_of}
use Rattle.release_compile.proofs.sets.allow_own.Given as goal

abbrev pub invariant-loop-i : goal.invariant-loop-i
invariant-loop-i l = record {
  count : length l.inner ≡ length l.fn.inner;
  lens : (j : ℕ) → length (set_at l.inner j) ≡ length (set_at l.fn.inner j);
  sets : (ls : List Layer) → AreSetsOf ls l.fn.inner → AreSetsOf ls l.inner;
  done : (k c : ℕ) → k < l.i → c < 2 → IsSet (set_at l.inner (suc k)) c ↔
      ((word : Dbpos) → slice_get l.own (other_of l.first l.moved k) ≡ Some word → Agrees word (eqb c 1));
  rest : (k : ℕ) → l.i ≤ k → set_at l.inner (suc k) ≡ set_at l.fn.inner (suc k);
  first : set_at l.inner 0 ≡ set_at l.fn.inner 0;
}
