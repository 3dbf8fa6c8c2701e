-- Two stations compared: what an operation that both have is released for.
use Rattle.std.specs.Prelude.{◌≡◌, ◌↔◌, ℕ, ◌<◌, Bool, true, false, List, length, slice_get, slice_index_or, Option, Some}
use Rattle.std.specs.Prelude.{None, [], MatchOption}
use Rattle.ilk_base.specs.declared.words.Op.{Op}
use Rattle.ilk_base.specs.declared.words.Rule.{Rule}
use Rattle.station_graph.specs.declared.items.Switch.{Switch}
use Rattle.station_changes.specs.declared.change.Change.{Change}
use Rattle.station_changes.specs.declared.change.Change.TheVariants.{Stricter, Looser}
use Rattle.station_graph.specs.Diagram.{Diagram, switch_path}
use Rattle.station_graph.specs.Alike.{IsVector}
use Rattle.station_graph.specs.CentralRules.{Breaks}

-- The path of a part.
abbrev pub part_path : Diagram → ℕ → List ℕ
part_path d p = slice_index_or d.part_paths p []

-- Switch i of the old station is switch k of the new one: their paths, their bays' paths and their kinds are the same.
pub record SameSwitch (o n : Diagram) (i k : ℕ) : Type 0 where
  pub old : Switch
  pub new : Switch
  pub old_at : slice_get o.switches i ≡ Some old
  pub new_at : slice_get n.switches k ≡ Some new
  pub path : switch_path o i ≡ switch_path n k
  pub bay : part_path o old.bay.0 ≡ part_path n new.bay.0
  pub kind : old.kind ≡ new.kind

-- A position of all switches of both: a vector of each station, in which the same switch has the same position.
pub record IsJoint (o n : Diagram) (u v : List Bool) : Type 0 where
  pub old : IsVector o u
  pub new : IsVector n v
  pub agree : (i k : ℕ) → SameSwitch o n i k → slice_get u i ≡ slice_get v k

-- Every switch that only one of the stations has is open.
pub record IsIsolated (o n : Diagram) (u v : List Bool) : Type 0 where
  pub old : (i : ℕ) → i < length o.switches → ((k : ℕ) → ¬ SameSwitch o n i k) → slice_get u i ≡ Some false
  pub new : (k : ℕ) → k < length n.switches → ((i : ℕ) → ¬ SameSwitch o n i k) → slice_get v k ≡ Some false

-- The operations are one, of a switch that both stations have.
pub record IsCommon (o n : Diagram) (a b : Op) : Type 0 where
  pub switch : SameSwitch o n a.switch.0 b.switch.0
  pub direction : a.direction ≡ b.direction

-- The same change, seen from the other station.
abbrev pub mirrored : Change → Change
mirrored Stricter = Looser
mirrored Looser = Stricter

-- In this position one of the stations releases the operation, and in the other it breaks this rule.
abbrev pub IsChange : Diagram → Diagram → Op → Op → Change → Rule → List Bool → List Bool → Type 0
IsChange o n a b Stricter rule u v = Breaks o u a None × Breaks n v b (Some rule)
IsChange o n a b Looser rule u v = Breaks o u a (Some rule) × Breaks n v b None

-- A position of all switches of both, and whether it is said to be isolated.
pub record Witness : Type 0 where
  pub old : List Bool
  pub new : List Bool
  pub isolated : Bool

-- The position shows the change; it is isolated exactly where some isolated one shows it.
pub record Shows (o n : Diagram) (a b : Op) (change : Change) (rule : Rule) (w : Witness) : Type 0 where
  pub joint : IsJoint o n w.old w.new
  pub shows : IsChange o n a b change rule w.old w.new
  pub isolated : w.isolated ≡ true → IsIsolated o n w.old w.new
  pub none_isolated : w.isolated ≡ false → (u v : List Bool) → IsJoint o n u v → IsIsolated o n u v →
      ¬ IsChange o n a b change rule u v

-- What is found of an operation, a change and a rule: a position exactly where there is one.
abbrev pub IsPart : Diagram → Diagram → Op → Op → Change → Rule → Option Witness → Type 0
IsPart o n a b change rule found =
    MatchOption found ((u v : List Bool) → IsJoint o n u v → ¬ IsChange o n a b change rule u v)
    (Shows o n a b change rule)

-- The new station extends the old one: it has all its switches, and with the switches that it alone has open it
-- releases exactly what the old one releases. Exactly then the command ends with 0.
pub record Extends (o n : Diagram) : Type 0 where
  pub all_there : (i : ℕ) → i < length o.switches → (k : ℕ) × SameSwitch o n i k
  pub releases : (a b : Op) (u v : List Bool) → IsCommon o n a b → IsJoint o n u v → IsIsolated o n u v →
      Breaks o u a None ↔ Breaks n v b None
