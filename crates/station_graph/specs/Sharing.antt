-- What belongs to a part, and which nodes it shares with another part.
use Rattle.std.specs.Prelude.{◌≡◌, ◌≢◌, ℕ, ◌⊎◌, slice_get, Some}
use Rattle.ilk_base.specs.declared.words.NodeId.{NodeId}
use Rattle.station_graph.specs.declared.items.Switch.{Switch}
use Rattle.station_graph.specs.declared.items.Link.{Link}
use Rattle.station_graph.specs.declared.items.Tap.{Tap}
use Rattle.station_graph.specs.Diagram.{Diagram}
use Rattle.station_graph.specs.Connection.{Item, a_switch, a_link, a_tap}

-- The item is one of this part.
abbrev pub OfPart : Diagram → ℕ → Item → Type 0
OfPart d part (a_switch i) = (x : Switch) × (slice_get d.switches i ≡ Some x) × (x.bay.0 ≡ part)
OfPart d part (a_link i) = (x : Link) × (slice_get d.links i ≡ Some x) × (x.part.0 ≡ part)
OfPart d part (a_tap i) = (x : Tap) × (slice_get d.taps i ≡ Some x) × (x.part.0 ≡ part)

-- The node is an end of the switch, or the one at which it stands; so whatever its position is.
abbrev pub AtSwitch : Switch → ℕ → Type 0
AtSwitch x n = (x.first.0 ≡ n) ⊎ ((m : NodeId) × (x.second ≡ Some m) × (m.0 ≡ n))

-- The node is an end of the link.
abbrev pub AtLink : Link → ℕ → Type 0
AtLink x n = (x.first.0 ≡ n) ⊎ (x.second.0 ≡ n)

-- The node is that of the tap.
abbrev pub AtTap : Tap → ℕ → Type 0
AtTap x n = x.node.0 ≡ n

-- The item touches the node: the node is an end of it, or the node of it.
abbrev pub Touches : Diagram → Item → ℕ → Type 0
Touches d (a_switch i) n = (x : Switch) × (slice_get d.switches i ≡ Some x) × AtSwitch x n
Touches d (a_link i) n = (x : Link) × (slice_get d.links i ≡ Some x) × AtLink x n
Touches d (a_tap i) n = (x : Tap) × (slice_get d.taps i ≡ Some x) × AtTap x n

-- One of these items touches the node.
pub record TouchedBy (These : Item → Type 0) (d : Diagram) (n : ℕ) : Type 0 where
  pub item : Item
  pub among : These item
  pub touches : Touches d item n

-- The part shares the node: an item of this part and an item of another part touch it.
pub record IsShared (d : Diagram) (part n : ℕ) : Type 0 where
  pub here : TouchedBy (OfPart d part) d n
  pub other : ℕ
  pub apart : other ≢ part
  pub there : TouchedBy (OfPart d other) d n
