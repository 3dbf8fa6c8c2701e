-- What moving a switch turns, and which rules an operation breaks.
use Rattle.std.specs.Prelude.{ℕ, Bool, List, not, slice_set, slice_index_or, false, Option, Some, MatchOption}
use Rattle.ilk_base.specs.declared.words.Op.{Op}
use Rattle.ilk_base.specs.declared.words.Rule.{Rule}
use Rattle.station_graph.specs.Diagram.{Diagram}
use Rattle.station_graph.specs.Alike.{IsVector}
use Rattle.station_graph.specs.CentralRules.{Breaks}
use Rattle.release_dependence.specs.Depends.{Turns, DependsOn}

-- The vector with this switch moved.
abbrev pub moved : ℕ → List Bool → List Bool
moved s v = slice_set v s (not (slice_index_or v s false))

-- Moving the switch in this vector turns the operation: it is released before or after, and the other time it breaks a
-- rule.
pub record IsTurning (d : Diagram) (op : Op) (s : ℕ) (v : List Bool) : Type 0 where
  pub vector : IsVector d v
  pub rule : Rule
  pub turns : Turns d op rule v (moved s v)

-- What is found of an operation and a switch: a vector in which moving the switch turns the operation, and none exactly
-- where the release does not depend on the switch.
abbrev pub IsTurn : Diagram → Op → ℕ → Option (List Bool) → Type 0
IsTurn d op s found = MatchOption found (¬ DependsOn d op s) (IsTurning d op s)

-- What is found of an operation and a rule: a vector in which the operation breaks it, and none where there is none.
abbrev pub IsBreach : Diagram → Op → Rule → Option (List Bool) → Type 0
IsBreach d op rule found =
    MatchOption found ((v : List Bool) → IsVector d v → ¬ Breaks d v op (Some rule))
    (λ v. IsVector d v × Breaks d v op (Some rule))
