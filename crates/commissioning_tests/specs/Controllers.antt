-- What a controller says, and where the tests show that it is wrong.
use Rattle.std.specs.Prelude.{◌≡◌, ◌≢◌, ◌↔◌, ◌⊎◌, ℕ, ◌<◌, ◌+◌, ◌≤◌, Bool, true, false, List, Option, Some, None, slice_get, slice_set}
use Rattle.ilk_base.specs.declared.words.Op.{Op}
use Rattle.ilk_base.specs.declared.words.Rule.{Rule}
use Rattle.station_graph.specs.Diagram.{Diagram}
use Rattle.station_graph.specs.Alike.{IsVector}
use Rattle.station_graph.specs.CentralRules.{Applies, IsOperation}
use Rattle.dependence_search.specs.Turning.{moved}
use Rattle.commissioning_tests.specs.declared.values.TestMove.{TestMove}
use Rattle.commissioning_tests.specs.declared.values.TestPosition.{TestPosition}
use Rattle.commissioning_tests.specs.declared.values.BayTests.{BayTests}
use Rattle.commissioning_tests.specs.Standing.{StandsFor}

-- A controller: whether it releases an operation, by the positions that it is told.
abbrev pub Controller : Type 0
Controller = Op → List Bool → Bool

-- What is to be seen of an answer: released, or not.
abbrev pub is_released : Option Rule → Bool
is_released None = true
is_released (Some rule) = false

-- In this vector the controller says of one of the operations what is not to be seen there.
pub record DiffersIn (releases : Controller) (ops : List Op) (v : List Bool) (answers : List (Option Rule)) : Type 0 where
  pub number : ℕ
  pub op : Op
  pub answer : Option Rule
  pub at : slice_get ops number ≡ Some op
  pub answer_at : slice_get answers number ≡ Some answer
  pub differs : releases op v ≢ is_released answer

-- So with one of the switches moved.
pub record DiffersMoved (releases : Controller) (ops : List Op) (p : TestPosition) : Type 0 where
  pub number : ℕ
  pub move : TestMove
  pub at : slice_get p.moves.items number ≡ Some move
  pub differs : DiffersIn releases ops (moved move.switch.0 p.closed.items) move.answers.items

-- So in one of the positions, or with a switch moved from it.
pub record Differs (releases : Controller) (t : BayTests) : Type 0 where
  pub place : ℕ
  pub position : TestPosition
  pub at : slice_get t.positions.items place ≡ Some position
  pub there : DiffersIn releases t.operations.items position.closed.items position.answers.items
      ⊎ DiffersMoved releases t.operations.items position

-- The controller takes the switch for always open, or always closed: what it says is what it would say then.
abbrev pub IsStuck : Controller → ℕ → Bool → Type 0
IsStuck releases s c = (op : Op) (v : List Bool) → releases op v ≡ releases op (slice_set v s c)

-- The tests find every controller that takes the switch, or one that stands for it, for always open or always closed.
pub record FindsStuck (d : Diagram) (first count : ℕ) (t : BayTests) (s : ℕ) : Type 0 where
  pub stand : ℕ
  pub stands : StandsFor d first count s stand
  pub own : first ≤ s → s < first + count → s ≡ stand
  pub found : (releases : Controller) (c : Bool) → IsStuck releases stand c → Differs releases t

-- The controller leaves this rule out, and knows the others: it releases an operation of the station exactly where none
-- of those applies.
abbrev pub LeavesOut : Diagram → Rule → Controller → Type 0
LeavesOut d rule releases =
    (op : Op) (v : List Bool) → IsOperation d op → IsVector d v →
    (releases op v ≡ true) ↔ ((other : Rule) → other ≢ rule → ¬ Applies other d v op)

-- The rule matters to the operation: in some vector it applies, and no other does.
pub record Matters (d : Diagram) (op : Op) (rule : Rule) : Type 0 where
  pub v : List Bool
  pub vector : IsVector d v
  pub applies : Applies rule d v op
  pub alone : (other : Rule) → other ≢ rule → ¬ Applies other d v op
