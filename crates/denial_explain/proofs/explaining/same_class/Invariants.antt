use Rattle.std.proofs.Common.{◌≡◌, slice_index}
use Rattle.denial_explain.proofs.ClassLemmas.{Picks}
use Rattle.denial_explain.proofs.explaining.same_class.Given as goal

abbrev pub invariant-loop-i : goal.invariant-loop-i
invariant-loop-i l = Picks (λ n. slice_index l.labels n ≡ l.class.0) l.i l.nodes
