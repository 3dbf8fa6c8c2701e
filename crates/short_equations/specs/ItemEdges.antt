-- The edges of items.
use Rattle.std.specs.Prelude.{◌≡◌, ◌≢◌, ◌<◌, ◌↔◌, ◌⊎◌, ℕ, true, List, slice_get, Some}
use Rattle.ilk_base.specs.declared.words.NodeId.{NodeId}
use Rattle.station_graph.specs.declared.items.Switch.{Switch}
use Rattle.station_graph.specs.declared.items.Link.{Link}
use Rattle.station_graph.specs.declared.items.Tap.{Tap}
use Rattle.station_graph.specs.Diagram.{Diagram}
use Rattle.station_graph.specs.Connection.{Item, AreEnds}
use Rattle.station_graph.specs.Alike.{IsVector}
use Rattle.interlock_terms.specs.declared.term.Term.{Term}
use Rattle.interlock_terms.specs.Terms.{Values, Solves, IsTrueAt}
use Rattle.short_equations.specs.declared.edge.TheConstants.{FIRST_MARK}
use Rattle.short_equations.specs.declared.edge.Edge.{Edge}
use Rattle.short_equations.specs.declared.view.View.{View}
use Rattle.short_equations.specs.Edges.{Along}
use Rattle.short_equations.specs.Sights.{SightBy, SwitchSight, LinkSight, TapSight}

-- The ends of the switch are nodes, and differ.
pub record EndsFit (x : Switch) : Type 0 where
  pub first : x.first.0 < FIRST_MARK
  pub second : (q : NodeId) → x.second ≡ Some q → (q.0 < FIRST_MARK) × (x.first.0 ≢ q.0)

-- The ways over the ends of a switch where the term is true.
pub record OverEnds (v : Values) (x : Switch) (term a b : ℕ) : Type 0 where
  pub second : NodeId
  pub has : x.second ≡ Some second
  pub ends : AreEnds x.first.0 second.0 a b
  pub there : IsTrueAt v term

-- With the values of the terms, the new edges lead as the old ones, and so too.
abbrev pub AddsWays : List Term → List Edge → (Values → ℕ → ℕ → Type 0) → List Edge → Type 0
AddsWays terms old Ways new =
    (v : Values) (a b : ℕ) → Solves v terms → Along v new a b ↔ (Along v old a b ⊎ Ways v a b)

-- And over the ends of the switch where the term is true.
abbrev pub AddsEnds : List Term → List Edge → Switch → ℕ → List Edge → Type 0
AddsEnds terms old x term new = AddsWays terms old (λ v. OverEnds v x term) new

-- And from the node to the mark where the term is true.
abbrev pub AddsMark : List Term → List Edge → ℕ → ℕ → ℕ → List Edge → Type 0
AddsMark terms old node mark term new =
    AddsWays terms old (λ v a b. IsTrueAt v term × ((a ≡ node) × (b ≡ mark))) new

-- And as the switch of this number does in the view.
abbrev pub AddsSwitch : View → List Term → List Edge → ℕ → Switch → List Edge → Type 0
AddsSwitch view terms old i x new =
    AddsWays terms old (λ v. SwitchSight view x (slice_get v.closed i ≡ Some true)) new

-- And as the link does.
abbrev pub AddsLink : View → List Term → List Edge → Link → List Edge → Type 0
AddsLink view terms old x new = AddsWays terms old (λ v. LinkSight view x) new

-- And as the tap does.
abbrev pub AddsTap : View → List Term → List Edge → Tap → List Edge → Type 0
AddsTap view terms old x new = AddsWays terms old (λ v. TapSight view x) new

-- In each vector of the station the new edges lead as the old ones, and as these items do in the view.
abbrev pub AddsSight : View → List Term → List Edge → (Item → Type 0) → Diagram → List Edge → Type 0
AddsSight view terms old These d new =
    (v : Values) (a b : ℕ) → IsVector d v.closed → Solves v terms → Along v new a b ↔
    (Along v old a b ⊎ SightBy view These d v.closed a b)
