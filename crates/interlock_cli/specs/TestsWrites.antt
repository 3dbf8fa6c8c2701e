-- What `tests` writes, and how it ends.
use Rattle.std.specs.Prelude.{◌≡◌, ◌⊎◌, ℕ, List}
use Rattle.interlock_cli.specs.WalkRefusals.{RefusesWalk}
use Rattle.interlock_cli.specs.declared.end.Outcome.{Outcome}
use Rattle.interlock_cli.specs.declared.end.Outcome.TheVariants.{Done}

-- Such a text, with which the call ends Done; or the walk of a switch of such a bay is too wide, and nothing is written.
abbrev pub TestsWrites : (List ℕ → Type 0) → (ℕ → Type 0) → Outcome → List ℕ → Type 0
TestsWrites IsText IsWide outcome text = ((outcome ≡ Done) × IsText text) ⊎ RefusesWalk IsWide outcome text
