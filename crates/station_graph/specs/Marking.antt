-- Marks on the nodes that items of a part, or of the other parts, touch.
use Rattle.std.specs.Prelude.{◌≡◌, ◌≢◌, ◌↔◌, ◌<◌, ℕ, ◌⊎◌, Bool, true, false, List, length, slice_get, Some}
use Rattle.station_graph.specs.Diagram.{Diagram}
use Rattle.station_graph.specs.Sharing.{AtSwitch, AtLink, AtTap}

-- Exactly the nodes with P were marked beside those that were marked before.
pub record Marks (P : ℕ → Type 0) (old new : List Bool) : Type 0 where
  pub len : length new ≡ length old
  pub marked : (n : ℕ) → (slice_get new n ≡ Some true) ↔ ((slice_get old n ≡ Some true) ⊎ P n)

-- The owner is the part itself, or another part.
abbrev pub PartIs : Bool → ℕ → ℕ → Type 0
PartIs true part owner = owner ≡ part
PartIs false part owner = owner ≢ part

-- One of the first k elements of the list has the property.
pub record SomeBelow {X : Type 0} (xs : List X) (P : X → Type 0) (k : ℕ) : Type 0 where
  pub place : ℕ
  pub item : X
  pub below : place < k
  pub listed : slice_get xs place ≡ Some item
  pub holds : P item

-- One of the first k switches of that side touches the node, and so for links and taps.
abbrev pub SwitchesAt : Bool → ℕ → Diagram → ℕ → ℕ → Type 0
SwitchesAt inside part d k n = SomeBelow d.switches (λ x. PartIs inside part x.bay.0 × AtSwitch x n) k

-- One of the first k links touches the node, and is of the part, or of another.
abbrev pub LinksAt : Bool → ℕ → Diagram → ℕ → ℕ → Type 0
LinksAt inside part d k n = SomeBelow d.links (λ x. PartIs inside part x.part.0 × AtLink x n) k

-- One of the first k taps stands at the node, and is of the part, or of another.
abbrev pub TapsAt : Bool → ℕ → Diagram → ℕ → ℕ → Type 0
TapsAt inside part d k n = SomeBelow d.taps (λ x. PartIs inside part x.part.0 × AtTap x n) k

-- An item of that side touches the node.
abbrev pub TouchedFrom : Bool → ℕ → Diagram → ℕ → Type 0
TouchedFrom inside part d n = (SwitchesAt inside part d (length d.switches) n
    ⊎ LinksAt inside part d (length d.links) n) ⊎ TapsAt inside part d (length d.taps) n
