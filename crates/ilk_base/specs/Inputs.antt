-- What is said of an input that gave no value.
use Rattle.std.specs.Prelude.{⊤}
use Rattle.ilk_base.specs.declared.words.InputRefusal.{InputRefusal}
use Rattle.ilk_base.specs.declared.input_fault.InputFault.{InputFault}
use Rattle.ilk_base.specs.declared.input_fault.InputFault.TheVariants.{Memory, Refused}

-- This holds of the refusal, where the fault is one; want of memory has no cause.
abbrev pub ForRefused : InputFault → (InputRefusal → Type 0) → Type 0
ForRefused Memory P = ⊤
ForRefused (Refused r) P = P r
