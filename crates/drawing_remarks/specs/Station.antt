-- Remarks on the station that is read.
use Rattle.std.specs.Prelude.{◌≡◌, ◌<◌, ℕ, ◌+◌, Bool, true, false, ◌==◌, ◌&&◌, ◌||◌, not, List}
use Rattle.std.specs.Prelude.{length, take, filter, replicate, count_by, slice_get, Some}
use Rattle.std.specs.List.{list_any}
use Rattle.std.specs.Option.{option_map_or}
use Rattle.ilk_base.specs.declared.words.Kind.{Kind}
use Rattle.ilk_base.specs.declared.words.Kind.TheVariants.{Breaker, Disconnector, Earthing, Infeed}
use Rattle.ilk_base.specs.declared.words.NodeId.{NodeId}
use Rattle.station_graph.specs.declared.items.Switch.{Switch}
use Rattle.station_graph.specs.declared.items.Link.{Link}
use Rattle.station_graph.specs.declared.items.Tap.{Tap}
use Rattle.station_graph.specs.Diagram.{Diagram, IsTwoEnded}
use Rattle.station_graph.specs.Connection.{Joined}
use Rattle.station_graph.specs.Sharing.{AtSwitch}
use Rattle.ssd_read.specs.Elements.{Element, element_at}
use Rattle.ssd_read.specs.Names.{is_node}
use Rattle.ssd_read.specs.Ends.{ends_of, nodes_at, is_number}
use Rattle.drawing_remarks.specs.Drawn.{is_equipment, equipment_use, is_infeed_use}

-- The two kinds are the same.
abbrev pub same_kind : Kind → Kind → Bool
same_kind Breaker Breaker = true
same_kind Disconnector Disconnector = true
same_kind Earthing Earthing = true
same_kind Infeed Infeed = true
same_kind _ _ = false

-- A switch is of this kind.
abbrev pub is_of_kind : Kind → Switch → Bool
is_of_kind kind x = same_kind kind x.kind

-- The station has no switch.
abbrev pub has_no_switch : Diagram → Bool
has_no_switch d = length d.switches == 0

-- The station has no infeed.
abbrev pub has_no_infeed : Diagram → Bool
has_no_infeed d = not (list_any (is_of_kind Infeed) d.switches)

-- Every switch is open, or closed.
abbrev pub all_in : Bool → Diagram → List Bool
all_in closed d = replicate (length d.switches) closed

-- Links alone join a and b.
abbrev pub LinksJoin : Diagram → ℕ → ℕ → Type 0
LinksJoin d = Joined d (all_in false d)

-- A chain of breakers, disconnectors and links joins a and b, in whatever position they are.
abbrev pub ItemsJoin : Diagram → ℕ → ℕ → Type 0
ItemsJoin d = Joined d (all_in true d)

-- An end of a breaker or disconnector stands at the node.
abbrev pub GapEndsAt : Diagram → ℕ → Type 0
GapEndsAt d m = (i : ℕ) × (x : Switch) × (slice_get d.switches i ≡ Some x) × IsTwoEnded x.kind × AtSwitch x m

-- No links lead from the node to a breaker or a disconnector.
abbrev pub IsLone : Diagram → ℕ → Type 0
IsLone d n = (m : ℕ) → LinksJoin d n m → ¬ GapEndsAt d m

-- The number of the node that the element at a place is: as many nodes stand before it.
abbrev pub node_number : List Element → ℕ → ℕ
node_number all i = length (filter is_node (take i all))

-- The element is an infeed at a node from which no links lead to a breaker or a disconnector.
pub record IsLoneInfeed (all : List Element) (d : Diagram) (i : ℕ) : Type 0 where
  pub infeed : is_infeed_use (equipment_use (element_at all i)) ≡ true
  pub node : ℕ
  pub first : slice_get (nodes_at (ends_of all i)) 0 ≡ Some node
  pub lone : IsLone d node

-- The element is a node, not the first, that no chain of items joins to a node before it.
pub record IsApart (all : List Element) (d : Diagram) (i : ℕ) : Type 0 where
  pub node : is_node (element_at all i) ≡ true
  pub later : 0 < node_number all i
  pub apart : (m : ℕ) → m < node_number all i → ¬ ItemsJoin d (node_number all i) m

-- A switch with two ends, a breaker or a disconnector, ends at the node.
abbrev pub gap_ends : ℕ → Switch → Bool
gap_ends n x = option_map_or (λ (m : NodeId). (x.first.0 == n) || (m.0 == n)) x.second false

-- A link ends at the node.
abbrev pub link_ends : ℕ → Link → Bool
link_ends n x = (x.first.0 == n) || (x.second.0 == n)

-- How many breakers, disconnectors and links end at the node.
abbrev pub items_ending : Diagram → ℕ → ℕ
items_ending d n = count_by (gap_ends n) d.switches + count_by (link_ends n) d.links

-- The switch is an earthing switch at the node.
abbrev pub is_earthed_by : ℕ → Switch → Bool
is_earthed_by n x = is_of_kind Earthing x && (x.first.0 == n)

-- The tap stands at the node.
abbrev pub is_tap_at : ℕ → Tap → Bool
is_tap_at n x = x.node.0 == n

-- The element is equipment that stands in this one.
abbrev pub is_equipment_in : ℕ → Element → Bool
is_equipment_in p x = is_equipment x && is_number p x.entry.parent

-- The bay of the element has equipment.
abbrev pub has_equipment_beside : List Element → Element → Bool
has_equipment_beside all x = option_map_or (λ p. list_any (is_equipment_in p) all) x.entry.parent false

-- One item ends at the node, with neither tap nor earthing switch there.
abbrev pub is_end : Diagram → ℕ → Bool
is_end d n =
    (items_ending d n == 1) && not (list_any (is_earthed_by n) d.switches) && not (list_any (is_tap_at n) d.taps)

-- The element is a node of a bay with equipment, and such an end.
abbrev pub is_loose_end : List Element → Diagram → ℕ → Bool
is_loose_end all d i =
    is_node (element_at all i) && is_end d (node_number all i) && has_equipment_beside all (element_at all i)
