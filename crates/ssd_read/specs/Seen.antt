-- What the types of the code stand for.
use Rattle.std.specs.Prelude.{◌≡◌, ℕ, ◌<◌, List, [], ◌∷◌, length, slice_index, Option, Some, None, Result, Ok, Err}
use Rattle.std.specs.List.{Contains}
use Rattle.std.specs.String.{string_bytes}
use Rattle.ssd_text.specs.Nesting.{Entry}
use Rattle.ssd_read.specs.declared.drawing.DrawnElement.{DrawnElement}
use Rattle.ssd_read.specs.declared.refusal.SsdRefusal.{SsdRefusal}
use Rattle.ssd_read.specs.declared.refusal.SsdRefusal.TheVariants.{Encoding, Syntax, Doctype, Deep, Mismatch, Unclosed}
use Rattle.ssd_read.specs.declared.refusal.SsdRefusal.TheVariants.{Many, Memory, Limit}
use Rattle.ssd_text.specs.declared.refusal.TextRefusal.{TextRefusal}
use Rattle.ssd_text.specs.declared.refusal.TextRefusal.TheVariants as texts
use Rattle.station_graph.specs.declared.fault.BuildFault.{BuildFault}
use Rattle.station_graph.specs.declared.fault.BuildFault.TheVariants as faults
use Rattle.station_graph.specs.Diagram.{Diagram, node_count, part_count}
use Rattle.station_graph.specs.Building.{FollowsLast, path_in_part}
use Rattle.ssd_read.specs.Steps.{Step, built}
use Rattle.ssd_read.specs.Elements.{Element}

-- The element that an entry is at this place of the drawing.
abbrev pub placed : Entry → DrawnElement → Element
placed e p = record { entry = e; role = p.role; within = p.within; path = string_bytes p.path }

-- Entries and their places, up to the end of the shorter list.
abbrev pub placed_all : List Entry → List DrawnElement → List Element
placed_all [] ps = []
placed_all (e ∷ es) [] = []
placed_all (e ∷ es) (p ∷ ps) = placed e p ∷ placed_all es ps

-- The error is this fault, or want of memory.
abbrev pub IsErrorOf : SsdRefusal → Option SsdRefusal → Type 0
IsErrorOf Memory fault = Unit {0}
IsErrorOf e fault = fault ≡ Some e

-- What a call answers agrees with this fault, unless memory ran out.
abbrev pub Finds : {X : Type 0} → Result X SsdRefusal → Option SsdRefusal → Type 0
Finds (Ok x) fault = fault ≡ None
Finds (Err e) fault = IsErrorOf e fault

-- The error is that of the building, or want of memory.
abbrev pub AnswersRefusal : SsdRefusal → Result Diagram SsdRefusal → Type 0
AnswersRefusal Memory outcome = Unit {0}
AnswersRefusal e outcome = outcome ≡ Err e

-- What a call answers agrees with taking these steps from a diagram, unless memory ran out.
abbrev pub Builds : {X : Type 0} → Diagram → List Step → Result X SsdRefusal → Diagram → Type 0
Builds d steps (Ok x) new = built d steps ≡ Ok new
Builds d steps (Err e) new = AnswersRefusal e (built d steps)

-- Each of these is a node of the diagram.
abbrev pub AreNodes : Diagram → List ℕ → Type 0
AreNodes d ns = (k : ℕ) → k < length ns → slice_index ns k < node_count d

-- As many nodes and parts as before, and the same switches.
pub record KeepsSwitches (old new : Diagram) : Type 0 where
  pub nodes : node_count new ≡ node_count old
  pub parts : part_count new ≡ part_count old
  pub switches : new.switches ≡ old.switches

-- A switch of this part and name may come next: the last is of no later part, and none has its path.
pub record MayTakeSwitch (d : Diagram) (part : ℕ) (name : List ℕ) : Type 0 where
  pub order : FollowsLast d part
  pub new : Contains d.switch_paths (path_in_part d part name) → ⊥

-- The refusal for a builder's fault.
abbrev pub refusal_of : BuildFault → SsdRefusal
refusal_of faults.Memory = Memory
refusal_of (faults.Limit what count) = Limit what count

-- The refusal for a fault of the text.
abbrev pub refusal_of_text : TextRefusal → SsdRefusal
refusal_of_text (texts.Encoding at) = Encoding at
refusal_of_text (texts.Syntax at) = Syntax at
refusal_of_text (texts.Doctype at) = Doctype at
refusal_of_text (texts.Deep at) = Deep at
refusal_of_text (texts.Mismatch at) = Mismatch at
refusal_of_text (texts.Unclosed at) = Unclosed at
refusal_of_text (texts.Many at) = Many at
refusal_of_text texts.Memory = Memory
