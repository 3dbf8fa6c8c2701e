-- The contraction of some items in a position of their switches: what these items alone couple, join,
-- bond and supply, as it is seen on some kept nodes. It has a gap view, of which the rules against
-- earthing and joining what may be live ask, and a load view, of which the rule on disconnectors asks.
use Rattle.std.specs.Prelude.{◌≡◌, ℕ, ◌↔◌, Bool, true, false, List, slice_get, Some}
use Rattle.ilk_base.specs.declared.words.Kind.{Kind}
use Rattle.ilk_base.specs.declared.words.Kind.TheVariants.{Earthing, Infeed}
use Rattle.station_graph.specs.declared.items.Tap.{Tap}
use Rattle.station_graph.specs.Diagram.{Diagram}
use Rattle.station_graph.specs.Connection.{Item, a_switch, a_tap, TouchingBy, Linked, with_breakers_closed}
use Rattle.station_graph.specs.Supply.{ClosedAt}

-- These items join a and b: a list of nodes leads from a to b in which each two neighbours are the ends
-- of a closed breaker, a closed disconnector or a link among these items.
abbrev pub JoinedBy : (Item → Type 0) → Diagram → List Bool → ℕ → ℕ → Type 0
JoinedBy These d v = Linked (TouchingBy These false d v)

-- The same with those links alone that are bonds.
abbrev pub BondedBy : (Item → Type 0) → Diagram → List Bool → ℕ → ℕ → Type 0
BondedBy These d v = Linked (TouchingBy These true d v)

-- These items couple a and b: they join them where every breaker counts as closed.
abbrev pub CoupledBy : (Item → Type 0) → Diagram → List Bool → ℕ → ℕ → Type 0
CoupledBy These d v = JoinedBy These d (with_breakers_closed d v)

-- One of these items is a switch of this kind that is closed in v and stands at the node.
pub record ClosedAtBy (These : Item → Type 0) (d : Diagram) (v : List Bool) (kind : Kind) (node : ℕ) : Type 0 where
  pub at : ClosedAt d v kind node
  pub among : These (a_switch at.number)

-- One of these items is a tap that stands at the node.
pub record HasTapBy (These : Item → Type 0) (d : Diagram) (node : ℕ) : Type 0 where
  pub number : ℕ
  pub tap : Tap
  pub listed : slice_get d.taps number ≡ Some tap
  pub stands : tap.node.0 ≡ node
  pub among : These (a_tap number)

-- These items couple the node to that of a closed infeed among them.
abbrev pub EnergisableBy : (Item → Type 0) → Diagram → List Bool → ℕ → Type 0
EnergisableBy These d v n = (m : ℕ) × CoupledBy These d v n m × ClosedAtBy These d v Infeed m

-- These items couple the node to that of a closed earthing switch among them.
abbrev pub EarthableBy : (Item → Type 0) → Diagram → List Bool → ℕ → Type 0
EarthableBy These d v n = (m : ℕ) × CoupledBy These d v n m × ClosedAtBy These d v Earthing m

-- These items join the node to that of a closed infeed among them.
abbrev pub FedBy : (Item → Type 0) → Diagram → List Bool → ℕ → Type 0
FedBy These d v n = (m : ℕ) × JoinedBy These d v n m × ClosedAtBy These d v Infeed m

-- These items join the node to that of a tap among them.
abbrev pub TappedBy : (Item → Type 0) → Diagram → List Bool → ℕ → Type 0
TappedBy These d v n = (m : ℕ) × JoinedBy These d v n m × HasTapBy These d m

-- How a node is supplied.
pub data Supply : Type 0 where
  bare : Supply
  tapped : Supply
  fed : Supply

-- These items supply the node so: it is fed where they join it to a closed infeed, else tapped where
-- they join it to a tap, else bare.
abbrev pub SupplyBy : (Item → Type 0) → Diagram → List Bool → ℕ → Supply → Type 0
SupplyBy These d v n bare = (¬ FedBy These d v n) × (¬ TappedBy These d v n)
SupplyBy These d v n tapped = (¬ FedBy These d v n) × TappedBy These d v n
SupplyBy These d v n fed = FedBy These d v n

-- In v and w these items have one gap view on the kept nodes: they couple the same, and make the same
-- nodes energisable and earthable.
pub record SameGapView (Kept : ℕ → Type 0) (These : Item → Type 0) (d : Diagram) (v w : List Bool) : Type 0 where
  pub coupled : (a b : ℕ) → Kept a → Kept b → CoupledBy These d v a b ↔ CoupledBy These d w a b
  pub energisable : (a : ℕ) → Kept a → EnergisableBy These d v a ↔ EnergisableBy These d w a
  pub earthable : (a : ℕ) → Kept a → EarthableBy These d v a ↔ EarthableBy These d w a

-- In v and w these items have one load view on the kept nodes: they join and bond the same, and supply
-- each node in the same way.
pub record SameLoadView (Kept : ℕ → Type 0) (These : Item → Type 0) (d : Diagram) (v w : List Bool) : Type 0 where
  pub joined : (a b : ℕ) → Kept a → Kept b → JoinedBy These d v a b ↔ JoinedBy These d w a b
  pub bonded : (a b : ℕ) → Kept a → Kept b → BondedBy These d v a b ↔ BondedBy These d w a b
  pub supply : (a : ℕ) → Kept a → (s : Supply) → SupplyBy These d v a s ↔ SupplyBy These d w a s
