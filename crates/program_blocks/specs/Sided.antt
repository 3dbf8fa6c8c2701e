-- The reading of a variable.
use Rattle.std.specs.Prelude.{Bool, true, false}
use Rattle.structured_text.specs.declared.name.Name.{Name}
use Rattle.structured_text.specs.Sides.{IsMay, IsSure}

-- The variable is one of what is certain, or one of what may be.
abbrev pub IsOf : Bool → Name → Type 0
IsOf true m = IsSure m
IsOf false m = IsMay m
