-- What the layers of a part are made of, and when another part is like it.
use Rattle.std.specs.Prelude.{zero, suc, ◌≡◌, ℕ, ◌+◌, ◌*◌, ◌≤◌, ◌↔◌, Bool, List, [], Option, Some, None, length, map}
use Rattle.std.specs.Prelude.{slice_get, Contains}
use Rattle.station_graph.specs.declared.limits.TheConstants.{BAY_SWITCHES}
use Rattle.station_graph.specs.Diagram.{Diagram, AreSwitchesOf}
use Rattle.contraction.specs.Answers.{Answers, AreNodes}
use Rattle.contraction.specs.Stands.{StandsFor}
use Rattle.contraction.specs.Renaming.{renamed}
use Rattle.part_alphabets.specs.declared.limits.TheConstants.{CONTRACTIONS}
use Rattle.bay_contract.specs.declared.course.Turn.{Turn}
use Rattle.bay_contract.specs.declared.course.Course.{Course}
use Rattle.part_alphabets.specs.declared.fork.Fork.{Fork}
use Rattle.bay_contract.specs.declared.pattern.Pattern.{Pattern}
use Rattle.part_alphabets.specs.Layers.{IsBase, IsKept}
use Rattle.bay_contract.specs.Sorting.{IsSwitchPair, KeepsAt}
use Rattle.part_alphabets.specs.Counting.{PartFits, AreStepSizes}
use Rattle.part_alphabets.specs.Diagrams.{AreStaged}
use Rattle.bay_contract.specs.Building.{IsBuilt}

-- The values of this switch of the part, and the nodes that matter after it.
pub record IsTurn (d : Diagram) (part bound : ℕ) (t : Turn) : Type 0 where
  pub pair : IsSwitchPair d bound t.off t.on
  pub kept : (n : ℕ) → Contains t.kept n ↔ IsKept d part (bound + 1) n
  pub nodes : AreNodes t.kept

-- The turns of these switches of the part, from the first on.
abbrev pub AreTurns : Diagram → ℕ → ℕ → List Turn → Type 0
AreTurns d part first turns = (j : ℕ) (t : Turn) → slice_get turns j ≡ Some t → IsTurn d part (first + j) t

-- The value of the part's links and taps on the nodes that matter first, and a turn for each of its switches.
pub record IsCourse (d : Diagram) (part first count : ℕ) (c : Course) : Type 0 where
  pub switches : AreSwitchesOf d part first count
  pub nodes : c.base.kept ≡ c.nodes
  pub base : KeepsAt d part first c.base
  pub stands : (v : List Bool) → StandsFor (IsBase d part) d v c.base
  pub counted : length c.turns.items ≡ count
  pub turns : AreTurns d part first c.turns.items

-- The nodes of a turn, if there is one.
abbrev pub turned : Option Turn → List ℕ
turned (Some t) = t.kept
turned None = []

-- The nodes that matter after so many switches.
abbrev pub nodes_after : Course → ℕ → List ℕ
nodes_after c zero = c.nodes
nodes_after c (suc j) = turned (slice_get c.turns.items j)

-- The nodes stand at one place of two lists.
pub record AtOnePlace (from to : List ℕ) (n m : ℕ) : Type 0 where
  pub place : ℕ
  pub first : slice_get from place ≡ Some n
  pub second : slice_get to place ≡ Some m

-- Place by place the entries of two lists are in the relation.
pub record AreRelated (R : ℕ → ℕ → Type 0) (xs ys : List ℕ) : Type 0 where
  pub len : length xs ≡ length ys
  pub each : (i n m : ℕ) → slice_get xs i ≡ Some n → slice_get ys i ≡ Some m → R n m

-- The second value answers what the first does, on the nodes in relation to its own.
pub record IsLike (R : ℕ → ℕ → Type 0) (x y : Answers) : Type 0 where
  pub nodes : AreRelated R x.kept y.kept
  pub answers : y ≡ renamed y.kept x

-- So the turns.
pub record IsLikeTurn (R : ℕ → ℕ → Type 0) (s t : Turn) : Type 0 where
  pub off : IsLike R s.off t.off
  pub on : IsLike R s.on t.on
  pub kept : AreRelated R s.kept t.kept

-- And the courses: the one is the other on other nodes.
pub record IsLikeCourse (x y : Course) : Type 0 where
  pub nodes : length x.nodes ≡ length y.nodes
  pub base : y.base ≡ renamed y.base.kept x.base
  pub count : length x.turns.items ≡ length y.turns.items
  pub turns : (j : ℕ) (s t : Turn) → slice_get x.turns.items j ≡ Some s → slice_get y.turns.items j ≡ Some t
      → IsLikeTurn (AtOnePlace x.nodes y.nodes) s t

-- The step tests the switch of this place in a part whose first switch has this number.
abbrev pub shifted : ℕ → Fork → Fork
shifted first f = record { switch = record { 0 = first + f.switch.0 }; off = f.off; on = f.on }

-- What is built of a pattern for a part with this course.
pub record IsBuiltOf (d : Diagram) (part first count : ℕ) (y : Course) (f : Pattern) : Type 0 where
  pub built : IsBuilt d part first count (map (renamed (nodes_after y count)) f.values.items) f.examples.items (map
      (shifted first) f.forks.items)
  pub staged : AreStaged first count (map (shifted first) f.forks.items)
  pub steps : AreStepSizes d part (length f.forks.items)
  pub few_steps : length f.forks.items ≤ CONTRACTIONS * BAY_SWITCHES
  pub fits : PartFits d part

-- The pattern serves each part of the station whose course is like its own. Its values are on the last nodes of
-- its own course.
pub record IsPattern (d : Diagram) (f : Pattern) : Type 0 where
  pub sized : (i : ℕ) (c : Answers) → slice_get f.values.items i ≡ Some c → length c.kept ≡ length
      (nodes_after f.course (length f.course.turns.items))
  pub serves : (part first count : ℕ) (y : Course) → IsCourse d part first count y → IsLikeCourse f.course y
      → IsBuiltOf d part first count y f

-- All of them do.
abbrev pub ArePatterns : Diagram → List Pattern → Type 0
ArePatterns d patterns = (i : ℕ) (f : Pattern) → slice_get patterns i ≡ Some f → IsPattern d f
