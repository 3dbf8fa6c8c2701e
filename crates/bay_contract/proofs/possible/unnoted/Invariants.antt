use Rattle.std.proofs.Common.{◌≤◌, ◌-◌, ℕ, length}
use Rattle.bay_contract.specs.Paths.{LeadsBack}
use Rattle.bay_contract.proofs.possible.unnoted.Given as goal

abbrev pub invariant-numbers : goal.invariant-numbers
invariant-numbers l = (length l.paths.items ≤ l.count) × ((t p : ℕ) → LeadsBack l.paths.items t p → ⊥)

abbrev pub decreases-numbers : goal.decreases-numbers
decreases-numbers l = l.count - length l.paths.items
