use Rattle.decision_graphs.specs.Reaching.{AreSetsOf}
use Rattle.part_alphabets.specs.Alphabets.{CanHave}
use Rattle.judge_pool.specs.Graphs.{other_of}
use Rattle.release_compile.proofs.SetsLemmas.{FilledBelow}
use Rattle.release_compile.proofs.sets.possible_sets.Given as goal

abbrev pub invariant-loop-j : goal.invariant-loop-j
invariant-loop-j l = record {
  sets : AreSetsOf l.outer.layers l.sets;
  filled : FilledBelow (λ j c. CanHave l.station l.parts (other_of 0 l.bay.0 j) l.all.words.now c) l.sets l.j;
}
