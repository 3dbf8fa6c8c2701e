-- The law on time of what a device may leave.
use Rattle.std.specs.Prelude.{◌≤◌, ◌⊎◌, ◌↔◌, ℕ, List}
use Rattle.stored_session.specs.View.{View}

-- Its law on time.
abbrev pub KeepsTime : {D : Type 0} → View D → Type 0
KeepsTime {D} v = (d : D) (t u : ℕ) (c : List ℕ) → t ≤ u → (v.since d t c ↔ (v.between d t u c ⊎ v.since d u c))
