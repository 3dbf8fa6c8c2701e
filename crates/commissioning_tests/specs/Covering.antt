-- What the tests of a bay show.
use Rattle.std.specs.Prelude.{◌≡◌, ◌⊎◌, ℕ, ◌<◌, ◌≤◌, ◌+◌, Bool, List, Option, Some, None, length, slice_get, map}
use Rattle.std.specs.List.{range_with_len}
use Rattle.ilk_base.specs.declared.words.Op.{Op}
use Rattle.ilk_base.specs.declared.words.Rule.{Rule}
use Rattle.station_graph.specs.Diagram.{Diagram, AreSwitchesOf}
use Rattle.station_graph.specs.Alike.{IsVector}
use Rattle.station_graph.specs.CentralRules.{Breaks}
use Rattle.release_dependence.specs.Depends.{DependsOn}
use Rattle.commissioning_tests.specs.declared.values.TestMove.{TestMove}
use Rattle.commissioning_tests.specs.declared.values.TestPosition.{TestPosition}
use Rattle.commissioning_tests.specs.declared.values.BayTests.{BayTests}
use Rattle.commissioning_tests.specs.Listed.{operations_from, AreThose}
use Rattle.commissioning_tests.specs.Answering.{ArePositions, TurnsAt}
use Rattle.commissioning_tests.specs.Standing.{StandsFor}

-- One of the moves is of switch s and turns operation k, whose answers in the position are these.
pub record TurnIsAmong (answers : List (Option Rule)) (moves : List TestMove) (k s : ℕ) : Type 0 where
  pub number : ℕ
  pub move : TestMove
  pub at : slice_get moves number ≡ Some move
  pub switch : move.switch.0 ≡ s
  pub turns : TurnsAt k answers move.answers.items

-- One of the positions has a move of switch s that turns operation k.
pub record TurnIsShown (positions : List TestPosition) (k s : ℕ) : Type 0 where
  pub place : ℕ
  pub position : TestPosition
  pub at : slice_get positions place ≡ Some position
  pub turn : TurnIsAmong position.answers.items position.moves.items k s

-- Operation k breaks the rule in one of the positions.
pub record RuleIsShown (positions : List TestPosition) (k : ℕ) (rule : Rule) : Type 0 where
  pub place : ℕ
  pub position : TestPosition
  pub at : slice_get positions place ≡ Some position
  pub answer : slice_get position.answers.items k ≡ Some (Some rule)

-- The operation is released in every vector.
abbrev pub IsAlways : Diagram → Op → Type 0
IsAlways d op = (v : List Bool) → IsVector d v → Breaks d v op None

-- Switch s is not one of so many switches from the first on, and one of the operations depends on it.
pub record IsNeeded (d : Diagram) (ops : List Op) (first count s : ℕ) : Type 0 where
  pub other : (s < first) ⊎ (first + count ≤ s)
  pub place : ℕ
  pub op : Op
  pub at : slice_get ops place ≡ Some op
  pub depends : DependsOn d op s

-- Moving switch s turns operation k in one of the positions, or moving one that stands for it does.
pub record TurnIsShownFor (d : Diagram) (first count : ℕ) (positions : List TestPosition) (k s : ℕ) : Type 0 where
  pub stand : ℕ
  pub stands : StandsFor d first count s stand
  pub shown : TurnIsShown positions k stand

-- The tests of the switches from the first on, so many of them: each line is what the rules say; for each operation and
-- each switch on which it depends a move turns it, of that switch or of one that stands for it; and for each rule that it
-- can break a position shows it.
pub record TestSwitches (d : Diagram) (first count : ℕ) (t : BayTests) : Type 0 where
  pub operations : t.operations.items ≡ operations_from first count
  pub always : AreThose (IsAlways d) t.operations.items t.always.items
  pub needs : AreThose (IsNeeded d t.operations.items first count) (range_with_len 0 (length d.switches))
      (map (λ s. s.0) t.needs.items)
  pub positions : ArePositions d t.operations.items t.positions.items
  pub turns : (k s : ℕ) (op : Op) → slice_get t.operations.items k ≡ Some op → DependsOn d op s →
      TurnIsShownFor d first count t.positions.items k s
  pub rules : (k : ℕ) (op : Op) (rule : Rule) (v : List Bool) → slice_get t.operations.items k ≡ Some op →
      IsVector d v → Breaks d v op (Some rule) → RuleIsShown t.positions.items k rule

-- The tests of a bay.
pub record AreTestsOf (d : Diagram) (bay : ℕ) (t : BayTests) : Type 0 where
  pub first : ℕ
  pub count : ℕ
  pub switches : AreSwitchesOf d bay first count
  pub tests : TestSwitches d first count t
