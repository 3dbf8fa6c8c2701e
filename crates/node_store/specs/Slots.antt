-- The numbers of the slots.
use Rattle.std.specs.Prelude.{ℕ}
use Rattle.node_store.specs.declared.slots.Slot.{Slot}
use Rattle.node_store.specs.declared.slots.Slot.TheVariants.{First, Second}

-- The number of a slot.
abbrev pub number : Slot → ℕ
number First = 0
number Second = 1
