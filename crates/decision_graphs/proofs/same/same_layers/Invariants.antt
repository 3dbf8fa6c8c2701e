use Rattle.std.proofs.Common.{◌≡◌, ℕ, ◌<◌, [], get_or}
use Rattle.decision_graphs.proofs.same.same_layers.Given as goal

abbrev pub invariant-loop-layer : goal.invariant-loop-layer
invariant-loop-layer l = (k : ℕ) → k < l.layer → get_or l.fn.one k [] ≡ get_or l.fn.other k []
