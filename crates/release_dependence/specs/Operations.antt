-- The two operations of a switch.
use Rattle.std.specs.Prelude.{ℕ}
use Rattle.ilk_base.specs.declared.words.Direction.TheVariants.{ToOff, ToOn}
use Rattle.ilk_base.specs.declared.words.Op.{Op}

-- To open a switch, and to close it.
abbrev pub opening : ℕ → Op
opening i = record { switch = record { 0 = i }; direction = ToOff }

abbrev pub closing : ℕ → Op
closing i = record { switch = record { 0 = i }; direction = ToOn }
