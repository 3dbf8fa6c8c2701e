-- How positions are added until all is shown.
use Rattle.std.specs.Prelude.{◌≡◌, ◌⊎◌, ℕ, ◌<◌, Bool, true, List, [], ◌∷◌, ◌++◌, Option, Some, None, MatchOption, length, slice_get}
use Rattle.ilk_base.specs.declared.words.Op.{Op}
use Rattle.ilk_base.specs.declared.words.Kind.TheVariants.{Infeed}
use Rattle.ilk_base.specs.declared.words.Rule.{Rule}
use Rattle.ilk_base.specs.declared.words.Rule.TheVariants.{R2}
use Rattle.station_graph.specs.declared.items.Switch.{Switch}
use Rattle.station_graph.specs.Connection.{a_switch}
use Rattle.station_graph.specs.Diagram.{Diagram}
use Rattle.station_graph.specs.Alike.{IsVector}
use Rattle.station_graph.specs.CentralRules.{Breaks, IsOperation}
use Rattle.release_dependence.specs.Depends.{DependsOn}
use Rattle.step_graphs.specs.Steps.{TakesIn}
use Rattle.station_joints.specs.Joined.{HaveJointSteps}
use Rattle.dependence_search.specs.Turning.{IsTurning}
use Rattle.dependence_search.specs.RuleWalks.{IsRuleWalk}
use Rattle.commissioning_tests.specs.declared.values.TestMove.{TestMove}
use Rattle.commissioning_tests.specs.declared.values.TestPosition.{TestPosition}
use Rattle.commissioning_tests.specs.declared.walked.OperationWalk.{OperationWalk}
use Rattle.decision_graphs.specs.Label.{Layered}
use Rattle.decision_graphs.specs.Reaching.{IsSet}
use Rattle.graph_walks.specs.Walks.{AreTwos}
use Rattle.graph_walks.specs.declared.codes.Codes.{Codes}
use Rattle.ilk_base.specs.declared.words.Direction.{Direction}
use Rattle.dependence_search.specs.RuleWalks.{IsTurningChoice}
use Rattle.dependence_search.specs.Released.{IsReleasedOf}
use Rattle.release_dependence.specs.Operations.{closing}
use Rattle.commissioning_tests.specs.Answering.{IsMove, AreRising, IsPosition, ArePositions}
use Rattle.commissioning_tests.specs.Standing.{IsMoved}
use Rattle.commissioning_tests.specs.Covering.{TurnIsAmong, TurnIsShown, RuleIsShown}

-- Switch i is a closed infeed, and closing it breaks the second rule: it stands at a node that is earthable.
pub record FeedsEarth (d : Diagram) (v : List Bool) (i : ℕ) : Type 0 where
  pub switch : Switch
  pub listed : slice_get d.switches i ≡ Some switch
  pub is_infeed : switch.kind ≡ Infeed
  pub closed : slice_get v i ≡ Some true
  pub breaks : Breaks d v (closing i) (Some R2)

-- The operations are ones of the station.
abbrev pub AreOperations : Diagram → List Op → Type 0
AreOperations d ops = (k : ℕ) (op : Op) → slice_get ops k ≡ Some op → IsOperation d op

-- Whatever moving the switch turns is shown by the positions.
abbrev pub AllIsShown : Diagram → List Op → List TestPosition → List Bool → ℕ → Type 0
AllIsShown d ops ps v s = (k : ℕ) (op : Op) → slice_get ops k ≡ Some op → IsTurning d op s v → TurnIsShown ps k s

-- What is found of a switch: its move, where the switch is asked and that shows what the positions do not.
abbrev pub IsMoveOf : Diagram → List Op → List Bool → List TestPosition → List Bool → List (Option Rule) → ℕ →
    Option TestMove → Type 0
IsMoveOf d ops asked ps v answers s found =
    MatchOption found (IsSet asked s → AllIsShown d ops ps v s) (λ m. (m.switch.0 ≡ s) × IsMove d ops v answers m)

-- The list of one, or of none.
abbrev pub list_of : Option TestMove → List TestMove
list_of None = []
list_of (Some m) = m ∷ []

-- The moves from a vector, which show whatever moving an asked switch turns and the positions do not show.
pub record AreMovesOf (d : Diagram) (ops : List Op) (asked : List Bool) (ps : List TestPosition) (v : List Bool)
    (answers : List (Option Rule)) (moves : List TestMove) : Type 0 where
  pub each : (j : ℕ) (m : TestMove) → slice_get moves j ≡ Some m → IsMove d ops v answers m
  pub rising : AreRising moves
  pub shows : (k s : ℕ) (op : Op) → slice_get ops k ≡ Some op → s < length d.switches → IsSet asked s →
      IsTurning d op s v → TurnIsShown ps k s ⊎ TurnIsAmong answers moves k s

-- One more position is added, that of this vector, which shows whatever moving an asked switch turns and the others do
-- not show.
pub record IsAdded (d : Diagram) (ops : List Op) (asked : List Bool) (ps qs : List TestPosition) (v : List Bool) :
    Type 0 where
  pub position : TestPosition
  pub added : qs ≡ ps ++ position ∷ []
  pub is : IsPosition d ops position
  pub closed : position.closed.items ≡ v
  pub shows : (k s : ℕ) (op : Op) → slice_get ops k ≡ Some op → s < length d.switches → IsSet asked s →
      IsTurning d op s v → TurnIsShown ps k s ⊎ TurnIsAmong position.answers.items position.moves.items k s

-- The positions stay, and more may be added.
abbrev pub Grows : List TestPosition → List TestPosition → Type 0
Grows ps qs = (i : ℕ) (p : TestPosition) → slice_get ps i ≡ Some p → slice_get qs i ≡ Some p

-- More positions of the operations.
pub record AreMore (d : Diagram) (ops : List Op) (ps qs : List TestPosition) : Type 0 where
  pub are : ArePositions d ops qs
  pub grows : Grows ps qs

-- The operation has an answer in every vector.
abbrev pub HasAnswers : Diagram → Op → Type 0
HasAnswers d op = (v : List Bool) → IsVector d v → (answer : Option Rule) × Breaks d v op answer

-- Whatever turns operation k and is moved is shown, and each rule that it can break.
pub record IsCovered (d : Diagram) (ops : List Op) (stands : List ℕ) (ps : List TestPosition) (k : ℕ) : Type 0 where
  pub answers : (op : Op) → slice_get ops k ≡ Some op → HasAnswers d op
  pub turns : (s : ℕ) (op : Op) → slice_get ops k ≡ Some op → IsMoved stands s → DependsOn d op s → TurnIsShown ps k s
  pub rules : (rule : Rule) (v : List Bool) (op : Op) → slice_get ops k ≡ Some op → IsVector d v →
      Breaks d v op (Some rule) → RuleIsShown ps k rule

-- Each layer is marked in which some choices turn the release of a move in this direction.
abbrev pub AreTurnedLayers : Layered → List Codes → Direction → List Bool → Type 0
AreTurnedLayers walk codes direction layers =
    (j : ℕ) (cs : List ℕ) → j < length walk.layers → AreTwos (length walk.layers) cs →
    IsTurningChoice walk codes j direction cs → IsSet layers j

-- The walk of an operation: that of its switch, whose step stands at the place, the graph of the operation, and the layers
-- in which a choice turns it.
pub record IsOperationWalk (w : OperationWalk) : Type 0 where
  pub steps : HaveJointSteps w.station.now w.station.now w.steps.now
  pub all : AreOperations w.station.now w.operations.now
  pub op : Op
  pub at : slice_get w.operations.now w.number ≡ Some op
  pub moved : TakesIn w.steps.now.old_steps.items w.place (a_switch op.switch.0)
  pub walk : IsRuleWalk w.station.now w.steps.now.old_steps.items w.place op.switch.0 w.walk.now.graph
      w.walk.now.codes.items
  pub released : IsReleasedOf w.walk.now.graph w.walk.now.codes.items op.direction w.released.now
  pub turned : AreTurnedLayers w.walk.now.graph w.walk.now.codes.items op.direction w.layers.now

-- All of the first so many operations is shown.
abbrev pub AreCovered : Diagram → List Op → List ℕ → List TestPosition → ℕ → Type 0
AreCovered d ops stands ps n = (k : ℕ) → k < n → IsCovered d ops stands ps k
