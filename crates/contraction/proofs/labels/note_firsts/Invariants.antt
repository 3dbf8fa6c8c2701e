use Rattle.contraction.proofs.FirstLemmas.{NotedFrom}
use Rattle.contraction.proofs.labels.note_firsts.Given as goal

abbrev pub invariant-loop-k : goal.invariant-loop-k
invariant-loop-k l = NotedFrom l.labels l.places l.k l.initial.firsts l.firsts
