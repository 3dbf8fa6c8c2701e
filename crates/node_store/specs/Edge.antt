-- What is told of a file: nothing.
use Rattle.std.specs.Prelude.{◌≤◌, ◌⊎◌, ◌↔◌, ⊤, ℕ, List}
use Rattle.std.proofs.Common.{inr}

-- A crash at some moment from that one on may have left anything.
abbrev pub NothingTold : {D : Type 0} → D → ℕ → List ℕ → Type 0
NothingTold d t c = ⊤

-- A crash between the two moments may have left anything.
abbrev pub NothingToldBetween : {D : Type 0} → D → ℕ → ℕ → List ℕ → Type 0
NothingToldBetween d t u c = ⊤

-- The law on time, of a device of which nothing is told.
pub nothing_splits : {D : Type 0} → (d : D) (t u : ℕ) (c : List ℕ) → t ≤ u →
    (NothingTold d t c ↔ (NothingToldBetween d t u c ⊎ NothingTold d u c))
nothing_splits d t u c le = (λ h. inr tt, λ h. tt)
