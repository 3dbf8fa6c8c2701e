-- The same items in another order and in other parts.
use Rattle.std.specs.Prelude.{◌≡◌, ℕ, Bool, List, slice_get, Some}
use Rattle.ilk_base.specs.declared.words.Op.{Op}
use Rattle.station_graph.specs.declared.items.Switch.{Switch}
use Rattle.station_graph.specs.declared.items.Link.{Link}
use Rattle.station_graph.specs.Diagram.{Diagram, HasTap}

-- The switch is the other one, but for its part.
pub record SwitchAs (x y : Switch) : Type 0 where
  pub kind : y.kind ≡ x.kind
  pub first : y.first ≡ x.first
  pub second : y.second ≡ x.second

-- At this place stands the switch x, but for its part.
pub record HasSwitch (d : Diagram) (i : ℕ) (x : Switch) : Type 0 where
  pub switch : Switch
  pub listed : slice_get d.switches i ≡ Some switch
  pub same : SwitchAs x switch

-- Some link is the link l, but for its part.
pub record HasLink (d : Diagram) (l : Link) : Type 0 where
  pub place : ℕ
  pub link : Link
  pub listed : slice_get d.links place ≡ Some link
  pub first : link.first ≡ l.first
  pub second : link.second ≡ l.second
  pub bond : link.bond ≡ l.bond

-- The second diagram has the items of the first: each switch at its new place, and each link and tap somewhere.
pub record HasItems (d e : Diagram) (place : ℕ → ℕ) : Type 0 where
  pub switches : (i : ℕ) (x : Switch) → slice_get d.switches i ≡ Some x → HasSwitch e (place i) x
  pub links : (i : ℕ) (l : Link) → slice_get d.links i ≡ Some l → HasLink e l
  pub taps : (n : ℕ) → HasTap d n → HasTap e n

-- The second diagram has the items of the first and no others; only their order and their parts may differ.
pub record IsArranged (d e : Diagram) : Type 0 where
  pub place : ℕ → ℕ
  pub back : ℕ → ℕ
  pub place_back : (i : ℕ) → back (place i) ≡ i
  pub back_place : (k : ℕ) → place (back k) ≡ k
  pub there : HasItems d e place
  pub again : HasItems e d back

-- The second vector gives each switch, at its new place, the position that the first gives it.
abbrev pub IsArrangedVector : (ℕ → ℕ) → List Bool → List Bool → Type 0
IsArrangedVector place v w = (i : ℕ) → slice_get v i ≡ slice_get w (place i)

-- The operations are one, of a switch at its new place.
pub record IsArrangedOp (place : ℕ → ℕ) (op other : Op) : Type 0 where
  pub switch : other.switch.0 ≡ place op.switch.0
  pub direction : other.direction ≡ op.direction
