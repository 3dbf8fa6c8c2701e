-- What a builder keeps, and when it refuses an item.
use Rattle.std.specs.Prelude.{◌≡◌, ℕ, ◌+◌, ◌-◌, ◌≤◌, ◌==◌, ◌&&◌, if◌then◌else◌, List, [], ◌∷◌, ◌++◌, length, slice_get}
use Rattle.std.specs.Prelude.{slice_index_or, Contains, Option, Some, None}
use Rattle.station_graph.specs.declared.items.Switch.{Switch}
use Rattle.station_graph.specs.declared.fault.What.{What}
use Rattle.station_graph.specs.declared.fault.What.TheVariants.{Parts, Bays, Nodes, Switches, BaySwitches, Links, Taps}
use Rattle.station_graph.specs.declared.fault.BuildFault.{BuildFault}
use Rattle.station_graph.specs.declared.fault.BuildFault.TheVariants.{Memory, Limit}
use Rattle.station_graph.specs.declared.limits.TheConstants.{PARTS, BAYS, NODES, SWITCHES, BAY_SWITCHES, LINKS, TAPS}
use Rattle.station_graph.specs.Diagram.{Diagram, ItemsFit, SwitchFits, PathsDiffer, IsOrdered, node_count, part_count}
use Rattle.station_graph.specs.Diagram.{bay_count, switches_in}

-- A diagram under way: its items fit, no path stands twice among its kind, and each switch is of the
-- part of the one before it or of a later part.
pub record IsDraft (d : Diagram) : Type 0 where
  pub items : ItemsFit d
  pub paths_differ : PathsDiffer d
  pub ordered : IsOrdered d.switches

-- The part is that of the last switch, or a later one.
abbrev pub FollowsLast : Diagram → ℕ → Type 0
FollowsLast d part = (x : Switch) → slice_get d.switches (length d.switches - 1) ≡ Some x → x.bay.0 ≤ part

-- A builder's counts: of the parts with a switch, and of the switches of the last one.
pub record CountsBays (d : Diagram) (bays in_last : ℕ) : Type 0 where
  pub all : bays ≡ bay_count d
  pub last : (x : Switch) → slice_get d.switches (length d.switches - 1) ≡ Some x → in_last ≡ switches_in d x.bay.0

-- The limit that one more item would pass, with the count that it would make; of several limits that a
-- switch would pass, the first in this order: all switches, those of its bay, the bays.
abbrev pub part_limit : Diagram → Option (What × ℕ)
part_limit d = if part_count d == PARTS then Some (Parts, PARTS + 1) else None

-- The same of one more node.
abbrev pub node_limit : Diagram → Option (What × ℕ)
node_limit d = if node_count d == NODES then Some (Nodes, NODES + 1) else None

-- The same of one more link.
abbrev pub link_limit : Diagram → Option (What × ℕ)
link_limit d = if length d.links == LINKS then Some (Links, LINKS + 1) else None

-- The same of one more tap.
abbrev pub tap_limit : Diagram → Option (What × ℕ)
tap_limit d = if length d.taps == TAPS then Some (Taps, TAPS + 1) else None

-- The same of one more switch of the part: of all switches, of those of one bay, of bays.
abbrev pub switch_limit : Diagram → ℕ → Option (What × ℕ)
switch_limit d part =
    if length d.switches == SWITCHES then Some (Switches, SWITCHES + 1)
    else (if switches_in d part == BAY_SWITCHES then Some (BaySwitches, BAY_SWITCHES + 1)
    else (if (switches_in d part == 0) && (bay_count d == BAYS) then Some (Bays, BAYS + 1) else None))

-- The fault is want of memory, or the limit.
abbrev pub IsFaultOf : BuildFault → Option (What × ℕ) → Type 0
IsFaultOf Memory limit = Unit {0}
IsFaultOf (Limit what count) limit = limit ≡ Some (what, count)

-- The path of a switch of the part: the path of the part, a slash (byte 47) and the name.
abbrev pub path_in_part : Diagram → ℕ → List ℕ → List ℕ
path_in_part d part name = slice_index_or d.part_paths part [] ++ 47 ∷ name

-- A switch with this name and item may be added: the item fits, its part is that of the last switch or
-- a later one, and its path is new.
pub record AcceptsSwitch (d : Diagram) (name : List ℕ) (x : Switch) : Type 0 where
  pub fits : SwitchFits d x
  pub order : FollowsLast d x.bay.0
  pub new : ¬ Contains d.switch_paths (path_in_part d x.bay.0 name)
