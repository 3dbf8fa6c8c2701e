-- Which calls of a program are for a bay.
use Rattle.std.specs.Prelude.{◌==◌, ℕ, Bool, false, Option, Some, None}
use Rattle.structured_text.specs.declared.line.Heading.{Heading}
use Rattle.structured_text.specs.declared.line.Heading.TheVariants.{Signals, Together, Releases}
use Rattle.program_blocks.specs.declared.block.Step.{Step}
use Rattle.program_blocks.specs.declared.block.Step.TheVariants.{Assign, Call}

-- Whether the comment is above the signals or the releases of bay p.
abbrev pub is_of_bay : ℕ → Option Heading → Bool
is_of_bay p None = false
is_of_bay p (Some (Signals q)) = q.0 == p
is_of_bay p (Some Together) = false
is_of_bay p (Some (Releases q)) = q.0 == p

-- Whether the step is a call for bay p.
abbrev pub is_for : ℕ → Step → Bool
is_for p (Assign x) = false
is_for p (Call c) = is_of_bay p c.heading
