use Rattle.change_search.proofs.AllowLemmas.{FreeUpto}
use Rattle.change_search.proofs.free.free_steps.Given as goal

abbrev pub invariant-loop-j : goal.invariant-loop-j
invariant-loop-j l = FreeUpto l.old_steps l.new_steps l.place l.free.items l.j
