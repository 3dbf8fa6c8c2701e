-- What a station is: a single-line diagram (IEC 61850-6) as lists of nodes, parts, switches, links and
-- taps.
use Rattle.std.specs.Prelude.{◌≡◌, ◌≢◌, ◌↔◌, ℕ, ◌+◌, ◌<◌, ◌≤◌, ◌==◌, nat_lt, count_by, List, [], length, take}
use Rattle.std.specs.Prelude.{slice_get, slice_index_or, Some, MatchOption}
use Rattle.std.specs.List.{range_with_len}
use Rattle.ilk_base.specs.declared.words.Kind.{Kind}
use Rattle.ilk_base.specs.declared.words.Kind.TheVariants.{Breaker, Disconnector, Earthing, Infeed}
use Rattle.station_graph.specs.declared.items.Switch.{Switch}
use Rattle.station_graph.specs.declared.items.Link.{Link}
use Rattle.station_graph.specs.declared.items.Tap.{Tap}
use Rattle.station_graph.specs.declared.limits.TheConstants.{PARTS, BAYS, NODES, SWITCHES, BAY_SWITCHES, LINKS, TAPS}

-- A single-line diagram: the paths of its nodes, parts and switches, and its three lists of items.
-- An item names nodes and parts by their places in the lists of paths.
pub record Diagram : Type 0 where
  pub node_paths : List (List ℕ)
  pub part_paths : List (List ℕ)
  pub switch_paths : List (List ℕ)
  pub switches : List Switch
  pub links : List Link
  pub taps : List Tap

-- The diagram without items.
abbrev pub empty : Diagram
empty = record { node_paths = []; part_paths = []; switch_paths = []; switches = []; links = []; taps = [] }

-- The path of a node.
abbrev pub node_path : Diagram → ℕ → List ℕ
node_path d n = slice_index_or d.node_paths n []

-- The path of a switch.
abbrev pub switch_path : Diagram → ℕ → List ℕ
switch_path d i = slice_index_or d.switch_paths i []

-- How many nodes there are.
abbrev pub node_count : Diagram → ℕ
node_count d = length d.node_paths

-- How many parts there are.
abbrev pub part_count : Diagram → ℕ
part_count d = length d.part_paths

-- A breaker or a disconnector: a switch with two ends.
abbrev pub IsTwoEnded : Kind → Type 0
IsTwoEnded Breaker = Unit {0}
IsTwoEnded Disconnector = Unit {0}
IsTwoEnded Earthing = ⊥
IsTwoEnded Infeed = ⊥

-- Exactly breakers and disconnectors have a second end, which is one of so many nodes and another
-- than the first.
abbrev pub SecondFits : ℕ → Switch → Type 0
SecondFits nodes x = MatchOption x.second (¬ IsTwoEnded x.kind) (λ n. IsTwoEnded x.kind × (n.0 < nodes)
    × (n.0 ≢ x.first.0))

-- The ids of a switch are in range, and its second end fits its kind.
pub record SwitchFits (d : Diagram) (x : Switch) : Type 0 where
  pub first_in : x.first.0 < node_count d
  pub part_in : x.bay.0 < part_count d
  pub second : SecondFits (node_count d) x

-- The ends of a link and its part are in range, and its ends differ.
pub record LinkFits (d : Diagram) (x : Link) : Type 0 where
  pub first_in : x.first.0 < node_count d
  pub second_in : x.second.0 < node_count d
  pub apart : x.first.0 ≢ x.second.0
  pub part_in : x.part.0 < part_count d

-- The node of a tap and its part are in range.
pub record TapFits (d : Diagram) (x : Tap) : Type 0 where
  pub node_in : x.node.0 < node_count d
  pub part_in : x.part.0 < part_count d

-- One of these taps stands at the node.
abbrev pub TapAmong : List Tap → ℕ → Type 0
TapAmong taps n = (i : ℕ) × (x : Tap) × (slice_get taps i ≡ Some x) × (x.node.0 ≡ n)

-- The station has a tap at the node.
abbrev pub HasTap : Diagram → ℕ → Type 0
HasTap d n = TapAmong d.taps n

-- How many switches a part has.
abbrev pub switches_in : Diagram → ℕ → ℕ
switches_in d part = count_by (λ x. x.bay.0 == part) d.switches

-- The place of a switch among those of its part: how many switches of the part stand before it.
abbrev pub place_in : Diagram → ℕ → ℕ → ℕ
place_in d part i = count_by (λ x. x.bay.0 == part) (take i d.switches)

-- How many parts have a switch; these are the bays.
abbrev pub bay_count : Diagram → ℕ
bay_count d = count_by (λ part. nat_lt 0 (switches_in d part)) (range_with_len 0 (part_count d))

-- There is a path for each switch, the counts are within the limits, and each item fits.
pub record ItemsFit (d : Diagram) : Type 0 where
  pub paths : length d.switch_paths ≡ length d.switches
  pub nodes_few : node_count d ≤ NODES
  pub parts_few : part_count d ≤ PARTS
  pub bays_few : bay_count d ≤ BAYS
  pub switches_few : length d.switches ≤ SWITCHES
  pub each_bay_few : (part : ℕ) → switches_in d part ≤ BAY_SWITCHES
  pub links_few : length d.links ≤ LINKS
  pub taps_few : length d.taps ≤ TAPS
  pub switches_fit : (i : ℕ) (x : Switch) → slice_get d.switches i ≡ Some x → SwitchFits d x
  pub links_fit : (i : ℕ) (x : Link) → slice_get d.links i ≡ Some x → LinkFits d x
  pub taps_fit : (i : ℕ) (x : Tap) → slice_get d.taps i ≡ Some x → TapFits d x

-- Each infeed of these switches stands at a node of one of these taps.
abbrev pub AllTapped : List Switch → List Tap → Type 0
AllTapped switches taps = (i : ℕ) (x : Switch) → slice_get switches i ≡ Some x → x.kind ≡ Infeed →
    TapAmong taps x.first.0

-- The node of each infeed has a tap.
abbrev pub InfeedsTapped : Diagram → Type 0
InfeedsTapped d = AllTapped d.switches d.taps

-- No path stands in the list twice.
abbrev pub Differ : List (List ℕ) → Type 0
Differ paths = (i j : ℕ) (p : List ℕ) → slice_get paths i ≡ Some p → slice_get paths j ≡ Some p → i ≡ j

-- No two nodes have one path, no two parts, and no two switches.
pub record PathsDiffer (d : Diagram) : Type 0 where
  pub nodes : Differ d.node_paths
  pub parts : Differ d.part_paths
  pub switches : Differ d.switch_paths

-- The diagram is one of a station. The switches of one part have neighbouring numbers: what stands
-- between two of them is of their part too.
pub record IsStation (d : Diagram) : Type 0 where
  pub items : ItemsFit d
  pub paths_differ : PathsDiffer d
  pub neighbouring : (i j k : ℕ) (x y z : Switch) → i ≤ j → j ≤ k → slice_get d.switches i ≡ Some x →
      slice_get d.switches j ≡ Some y → slice_get d.switches k ≡ Some z → x.bay.0 ≡ z.bay.0 → y.bay.0 ≡ x.bay.0
  pub infeeds_tapped : InfeedsTapped d

-- Each switch is of the part of the one before it or of a later part.
abbrev pub IsOrdered : List Switch → Type 0
IsOrdered switches = (i j : ℕ) (x y : Switch) → i ≤ j → slice_get switches i ≡ Some x → slice_get switches j ≡ Some y →
    x.bay.0 ≤ y.bay.0

-- The switches of the part are those from the first on, so many of them.
pub record AreSwitchesOf (d : Diagram) (part first count : ℕ) : Type 0 where
  pub counted : count ≡ switches_in d part
  pub within : first + count ≤ length d.switches
  pub those : (i : ℕ) (x : Switch) → slice_get d.switches i ≡ Some x → (x.bay.0 ≡ part)
      ↔ ((first ≤ i) × (i < first + count))
