-- No index so far has its bit.
use Rattle.std.proofs.Common.{◌≡◌, ℕ, ◌<◌, ◌≤◌, true}
use Rattle.release_compile.specs.Summaries.{has_bit}
use Rattle.release_compile.proofs.summary.some_bit.Given as goal

abbrev pub invariant-loop-i : goal.invariant-loop-i
invariant-loop-i l = (k : ℕ) → l.from ≤ k → k < l.i → has_bit l.row k ≡ true → ⊥
