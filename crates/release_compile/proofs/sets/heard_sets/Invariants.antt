use Rattle.std.proofs.Common.{◌<◌, slice_get}
use Rattle.decision_graphs.specs.Reaching.{AreSetsOf}
use Rattle.judge_pool.specs.Lettered.{lettered, index_count}
use Rattle.judge_pool.specs.Graphs.{other_of}
use Rattle.release_compile.specs.Summaries.{HeardAllows}
use Rattle.release_compile.proofs.SetsLemmas.{FilledBelow}
use Rattle.release_compile.proofs.sets.heard_sets.Given as goal

abbrev pub invariant-loop-j : goal.invariant-loop-j
invariant-loop-j l = record {
  sets : AreSetsOf l.outer.layers l.sets;
  filled : FilledBelow (λ j c. (c < index_count (lettered l.station l.parts) (other_of 0 l.bay.0 j))
      × HeardAllows (slice_get l.heard (other_of 0 l.bay.0 j)) c) l.sets l.j;
}
