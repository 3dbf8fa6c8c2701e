-- What all items but the moved switch couple, join and bond, with marks for what stands at the nodes.
use Rattle.std.specs.Prelude.{◌≡◌, ◌⊎◌, ◌+◌, ℕ, Bool, true, false, List, Some}
use Rattle.ilk_base.specs.declared.words.Kind.{Kind}
use Rattle.ilk_base.specs.declared.words.NodeId.{NodeId}
use Rattle.station_graph.specs.declared.items.Switch.{Switch}
use Rattle.station_graph.specs.declared.items.Link.{Link}
use Rattle.station_graph.specs.declared.items.Tap.{Tap}
use Rattle.ilk_base.specs.declared.words.Kind.TheVariants.{Breaker, Disconnector, Earthing, Infeed}
use Rattle.station_graph.specs.Diagram.{Diagram}
use Rattle.station_graph.specs.Connection.{Item, TouchingBy, AreEnds, with_breakers_closed}
use Rattle.station_graph.specs.Views.{ClosedAtBy, HasTapBy}
use Rattle.short_equations.specs.declared.edge.TheConstants.{FIRST_MARK}
use Rattle.short_equations.specs.declared.view.View.{View}
use Rattle.short_equations.specs.declared.view.View.TheVariants.{Gap, Load, Bond}
use Rattle.short_equations.specs.declared.view.Step.{Step}
use Rattle.short_equations.specs.declared.view.Step.TheVariants.{Nothing, Ends, ClosedEnds, FirstMark, SecondMark}
use Rattle.short_equations.specs.Edges.{IsMark}
use Rattle.short_equations.specs.Standing.{Marked}

-- The two marks of a relation.
abbrev pub first_mark : ℕ
first_mark = FIRST_MARK

abbrev pub second_mark : ℕ
second_mark = FIRST_MARK + 1

-- The first mark for what has P, the second for what has Q.
abbrev pub HasTwo : (ℕ → Type 0) → (ℕ → Type 0) → ℕ → ℕ → Type 0
HasTwo P Q a b = ((b ≡ first_mark) × P a) ⊎ ((b ≡ second_mark) × Q a)

-- What these items couple, with a mark at each closed infeed and at each closed earthing switch.
abbrev pub GapSight : (Item → Type 0) → Diagram → List Bool → ℕ → ℕ → Type 0
GapSight These d v =
    Marked IsMark (TouchingBy These false d (with_breakers_closed d v))
    (HasTwo (ClosedAtBy These d v Infeed) (ClosedAtBy These d v Earthing))

-- What they join, with a mark at each closed infeed and at each tap.
abbrev pub LoadSight : (Item → Type 0) → Diagram → List Bool → ℕ → ℕ → Type 0
LoadSight These d v =
    Marked IsMark (TouchingBy These false d v) (HasTwo (ClosedAtBy These d v Infeed) (HasTapBy These d))

-- What they bond.
abbrev pub BondSight : (Item → Type 0) → Diagram → List Bool → ℕ → ℕ → Type 0
BondSight These d v = TouchingBy These true d v

-- What these items are in a view.
abbrev pub SightBy : View → (Item → Type 0) → Diagram → List Bool → ℕ → ℕ → Type 0
SightBy Gap = GapSight
SightBy Load = LoadSight
SightBy Bond = BondSight

-- What a switch of this kind is in a view: a breaker always couples its ends, a disconnector where it is closed; an
-- earthing switch or infeed that is closed has a mark at its node; and what joins, bonds.
abbrev pub step_in : View → Kind → Step
step_in Gap Breaker = Ends
step_in Gap Disconnector = ClosedEnds
step_in Gap Earthing = SecondMark
step_in Gap Infeed = FirstMark
step_in Load Breaker = ClosedEnds
step_in Load Disconnector = ClosedEnds
step_in Load Earthing = Nothing
step_in Load Infeed = FirstMark
step_in Bond Breaker = ClosedEnds
step_in Bond Disconnector = ClosedEnds
step_in Bond Earthing = Nothing
step_in Bond Infeed = Nothing

-- The ways of a switch that is this.
abbrev pub StepSight : Step → Switch → Type 0 → ℕ → ℕ → Type 0
StepSight Nothing x closed a b = ⊥
StepSight Ends x closed a b = (q : NodeId) × (x.second ≡ Some q) × AreEnds x.first.0 q.0 a b
StepSight ClosedEnds x closed a b = (q : NodeId) × (x.second ≡ Some q) × AreEnds x.first.0 q.0 a b × closed
StepSight FirstMark x closed a b = (a ≡ x.first.0) × (b ≡ first_mark) × closed
StepSight SecondMark x closed a b = (a ≡ x.first.0) × (b ≡ second_mark) × closed

-- The ways of one switch in a view.
abbrev pub SwitchSight : View → Switch → Type 0 → ℕ → ℕ → Type 0
SwitchSight view x = StepSight (step_in view x.kind) x

-- The ways of one link in a view: between its ends, but no bond where it is none.
abbrev pub LinkSight : View → Link → ℕ → ℕ → Type 0
LinkSight view x a b = AreEnds x.first.0 x.second.0 a b × (view ≡ Bond → x.bond ≡ true)

-- The ways of one tap in a view: to the second mark, where loads are looked at.
abbrev pub TapSight : View → Tap → ℕ → ℕ → Type 0
TapSight view x a b = (view ≡ Load) × (a ≡ x.node.0) × (b ≡ second_mark)
