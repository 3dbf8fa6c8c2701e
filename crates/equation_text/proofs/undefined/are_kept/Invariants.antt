use Rattle.std.proofs.Common.{length}
use Rattle.equation_text.specs.Entries.{has_entry}
use Rattle.equation_text.proofs.NumberLemmas.{WordsSoFar}
use Rattle.equation_text.proofs.undefined.are_kept.Given as goal

abbrev pub invariant-loop-word : goal.invariant-loop-word
invariant-loop-word l = WordsSoFar (has_entry l.entries) l.kind l.words l.left

abbrev pub decreases-loop-word : goal.decreases-loop-word
decreases-loop-word l = length l.left
