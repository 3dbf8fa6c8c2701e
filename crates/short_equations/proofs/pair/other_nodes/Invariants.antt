use Rattle.std.proofs.Common.{◌↔◌, ◌<◌, ◌≢◌, ℕ, length}
use Rattle.short_equations.specs.Edges.{IsOneBelow}
use Rattle.short_equations.proofs.pair.other_nodes.Given as goal

abbrev pub invariant-loop-n : goal.invariant-loop-n
invariant-loop-n l =
    (k : ℕ) → IsOneBelow l.nodes.items (length l.nodes.items) k ↔ ((k < l.n) × (k ≢ l.first.0) × (k ≢ l.second.0))
