-- An order undone.
use Rattle.std.specs.Prelude.{List, map, reverse}
use Rattle.ilk_base.specs.declared.words.Direction.{Direction}
use Rattle.ilk_base.specs.declared.words.Direction.TheVariants.{ToOff, ToOn}
use Rattle.ilk_base.specs.declared.words.Op.{Op}

-- The other direction.
abbrev pub other_way : Direction → Direction
other_way ToOff = ToOn
other_way ToOn = ToOff

-- The operation in the other direction.
abbrev pub opposite : Op → Op
opposite op = record { switch = op.switch; direction = other_way op.direction }

-- The steps from the last to the first, each in the other direction.
abbrev pub undone : List Op → List Op
undone ops = map opposite (reverse ops)
