use Rattle.std.proofs.Common.{length}
use Rattle.equation_text.specs.Entries.{has_entry}
use Rattle.equation_text.proofs.KeptLemmas.{KeptSoFar}
use Rattle.equation_text.proofs.entries.entries_of.Given as goal

abbrev pub invariant-loop-line : goal.invariant-loop-line
invariant-loop-line l = KeptSoFar l.text l.left (has_entry l.entries)

abbrev pub decreases-loop-line : goal.decreases-loop-line
decreases-loop-line l = length l.left
