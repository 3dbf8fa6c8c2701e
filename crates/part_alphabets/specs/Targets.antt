-- The numbers of targets: that of a step, or the number of steps and an index.
use Rattle.std.specs.Prelude.{◌≡◌, ℕ, ◌+◌, ◌<◌, List, length, slice_get, Some}
use Rattle.part_alphabets.specs.declared.fork.Fork.{Fork}
use Rattle.part_alphabets.specs.declared.fork.PartStep.{PartStep}
use Rattle.part_alphabets.specs.declared.fork.Target.{Target}
use Rattle.part_alphabets.specs.declared.fork.Target.TheVariants.{Step, Index}
use Rattle.part_alphabets.specs.Diagrams.{ForkFits}

-- The target as a plain number: steps first, then letters.
abbrev pub number_of : ℕ → Target → ℕ
number_of steps (Step n) = n
number_of steps (Index i) = steps + i

-- The target is one of so many steps, or an index.
abbrev pub IsTargetOf : ℕ → Target → Type 0
IsTargetOf steps (Step n) = n < steps
IsTargetOf steps (Index i) = Unit {0}

-- The step tests the switch of the fork and leads where it leads.
pub record IsStepOf (steps : ℕ) (f : Fork) (s : PartStep) : Type 0 where
  pub switch : s.switch ≡ f.switch
  pub off : number_of steps s.off ≡ f.off
  pub on : number_of steps s.on ≡ f.on

-- The step is that of the fork of this number, which tests one of so many switches, and leads to later
-- steps or to one of so many indices.
pub record IsStepAt (switches size : ℕ) (forks : List Fork) (i : ℕ) (s : PartStep) : Type 0 where
  pub fork : Fork
  pub listed : slice_get forks i ≡ Some fork
  pub step : IsStepOf (length forks) fork s
  pub fits : ForkFits switches (length forks) size i fork
