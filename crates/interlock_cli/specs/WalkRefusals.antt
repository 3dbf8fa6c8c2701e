-- A walk that is too wide ends a command.
use Rattle.std.specs.Prelude.{◌≡◌, ℕ, List, []}
use Rattle.ilk_base.specs.declared.words.BayId.{BayId}
use Rattle.interlock_cli.specs.declared.end.Outcome.{Outcome}
use Rattle.interlock_cli.specs.declared.end.Outcome.TheVariants.{TooWide}

-- The walk of a switch of this bay is too wide, and nothing is written.
pub record RefusesWalk (IsWideBay : ℕ → Type 0) (outcome : Outcome) (text : List ℕ) : Type 0 where
  pub bay : BayId
  pub too_wide : IsWideBay bay.0
  pub outcome_is : outcome ≡ TooWide bay
  pub nothing : text ≡ []
