-- Edges that stand for the items of some parts.
use Rattle.std.specs.Prelude.{◌≡◌, ◌≢◌, ◌<◌, ◌≤◌, ◌⊎◌, ℕ, List, [], ◌∷◌, slice_get, Some}
use Rattle.ilk_base.specs.declared.words.NodeId.{NodeId}
use Rattle.station_graph.specs.Diagram.{Diagram, node_count}
use Rattle.station_graph.specs.Connection.{Item}
use Rattle.station_graph.specs.declared.items.Switch.{Switch}
use Rattle.station_graph.specs.declared.items.Link.{Link}
use Rattle.station_graph.specs.declared.items.Tap.{Tap}
use Rattle.station_graph.specs.Sharing.{OfPart, Touches, AtSwitch, AtLink, AtTap}
use Rattle.station_graph.specs.Alike.{IsVector}
use Rattle.interlock_terms.specs.declared.term.Term.{Term}
use Rattle.interlock_terms.specs.Terms.{Values, Solves}
use Rattle.short_equations.specs.declared.edge.Edge.{Edge}
use Rattle.short_equations.specs.declared.view.View.{View}
use Rattle.short_equations.specs.declared.part_set.PartSet.{PartSet}
use Rattle.short_equations.specs.declared.part_set.PartSet.TheVariants.{Only, Below, From, But}
use Rattle.short_equations.specs.Edges.{Along}
use Rattle.short_equations.specs.Standing.{Or, Replaces}
use Rattle.short_equations.specs.Sights.{SightBy}

-- The part of this number is one of the set.
abbrev pub IsIn : PartSet → ℕ → Type 0
IsIn (Only p) q = q ≡ p.0
IsIn (Below n) q = q < n
IsIn (From n) q = n ≤ q
IsIn (But p) q = q ≢ p.0

-- The item is of a part of the set.
abbrev pub InParts : Diagram → PartSet → Item → Type 0
InParts d set item = (q : ℕ) × OfPart d q item × IsIn set q

-- The first k switches at the node are of parts of the set.
abbrev pub SwitchesInner : Diagram → PartSet → ℕ → ℕ → Type 0
SwitchesInner d set n k =
    (i : ℕ) (x : Switch) → i < k → slice_get d.switches i ≡ Some x → AtSwitch x n → IsIn set x.bay.0

-- The first k links at the node are.
abbrev pub LinksInner : Diagram → PartSet → ℕ → ℕ → Type 0
LinksInner d set n k = (i : ℕ) (x : Link) → i < k → slice_get d.links i ≡ Some x → AtLink x n → IsIn set x.part.0

-- The first k taps at the node are.
abbrev pub TapsInner : Diagram → PartSet → ℕ → ℕ → Type 0
TapsInner d set n k = (i : ℕ) (x : Tap) → i < k → slice_get d.taps i ≡ Some x → AtTap x n → IsIn set x.part.0

-- N is one of these nodes.
abbrev pub IsOneOf : List NodeId → ℕ → Type 0
IsOneOf [] n = ⊥
IsOneOf (m ∷ ms) n = (n ≡ m.0) ⊎ IsOneOf ms n

-- Each is a node of the station at which all items are of parts of the set.
abbrev pub AreInner : Diagram → PartSet → List NodeId → Type 0
AreInner d set nodes =
    (n : ℕ) → IsOneOf nodes n → (n < node_count d) × ((item : Item) → Touches d item n → InParts d set item)

-- The edges stand for these items: with the values of the terms in a vector of the station they are, in the place of
-- what the items are in the view, with some nodes gone, at which no other item stands.
pub record StandsForItems (view : View) (d : Diagram) (terms : List Term) (These : Item → Type 0) (edges : List Edge) : Type 0 where
  pub gone : List NodeId
  pub nodes : (n : ℕ) → IsOneOf gone n → n < node_count d
  pub inner : (n : ℕ) → IsOneOf gone n → (item : Item) → Touches d item n → These item
  pub stands : (v : Values) → IsVector d v.closed → Solves v terms →
      Replaces (IsOneOf gone) (SightBy view These d v.closed) (Along v edges)

-- The new edges are those of both lists, with some nodes gone at which all items are of parts of the set.
pub record ComposedOf (d : Diagram) (set : PartSet) (terms : List Term) (first second new : List Edge) : Type 0 where
  pub gone : List NodeId
  pub inner : AreInner d set gone
  pub stands : (v : Values) → Solves v terms →
      Replaces (IsOneOf gone) (Or (Along v first) (Along v second)) (Along v new)
