-- Items touch what they join, close or tap.
use Rattle.std.proofs.Common.{◌≢◌, ◌<◌, ℕ, Bool, List, Option, subst, sym, inl, inr}
use Rattle.std.specs.Prelude.{MatchOption}
use Rattle.ilk_base.specs.declared.words.Kind.{Kind}
use Rattle.ilk_base.specs.declared.words.NodeId.{NodeId}
use Rattle.station_graph.specs.Diagram.{Diagram, IsStation, IsTwoEnded, node_count}
use Rattle.station_graph.specs.Connection.{Item, a_switch, a_link, a_tap, ItemBetween, TouchingBy}
use Rattle.station_graph.specs.Sharing.{Touches, TouchedBy, IsShared}
use Rattle.station_graph.specs.Views.{ClosedAtBy, HasTapBy}
use Rattle.station_graph.proofs.PartialEdges.{by_back}

-- an item touches what it joins
between_touches : (bonds_only : Bool) (d : Diagram) (v : List Bool) (item : Item) (a b : ℕ) →
    ItemBetween bonds_only d v item a b → Touches d item a
between_touches bonds_only d v (a_switch i) a b h =
    (h.switch, h.listed, elim h.ends [ inl e ↦ inl (sym e.0) | inr e ↦ inr (h.second, h.has_second, sym e.0) ])
between_touches bonds_only d v (a_link i) a b h =
    (h.link, h.listed, elim h.ends [ inl e ↦ inl (sym e.0) | inr e ↦ inr (sym e.0) ])
between_touches bonds_only d v (a_tap i) a b h = absurd h

pub touching_touches : (These : Item → Type 0) (bonds_only : Bool) (d : Diagram) (v : List Bool) (a b : ℕ) →
    TouchingBy These bonds_only d v a b → TouchedBy These d a
touching_touches These bonds_only d v a b h = record {
  item = h.item;
  among = h.among;
  touches =
      between_touches bonds_only d v h.item a b h.between;
}

pub touching_touches_end : (These : Item → Type 0) (bonds_only : Bool) (d : Diagram) (v : List Bool) (a b : ℕ) →
    TouchingBy These bonds_only d v a b → TouchedBy These d b
touching_touches_end These bonds_only d v a b h = touching_touches These bonds_only d v b a
    (by_back These bonds_only d v a b h)

pub closed_touches : (These : Item → Type 0) (d : Diagram) (v : List Bool) (kind : Kind) (n : ℕ) →
    ClosedAtBy These d v kind n → TouchedBy These d n
closed_touches These d v kind n h = record {
  item = a_switch h.at.number;
  among = h.among;
  touches =
      (h.at.switch, h.at.listed, inl h.at.stands);
}

pub tap_touches : (These : Item → Type 0) (d : Diagram) (n : ℕ) → HasTapBy These d n → TouchedBy These d n
tap_touches These d n h = record { item = a_tap h.number; among = h.among; touches = (h.tap, h.listed, h.stands) }

-- what an item of a station touches is one of its nodes
touched_in : (d : Diagram) → IsStation d → (item : Item) (n : ℕ) → Touches d item n → n < node_count d
touched_in d station (a_switch i) n (x, at, inl e) = subst (λ k. k < node_count d) e
    (station.items.switches_fit i x at).first_in
touched_in d station (a_switch i) n (x, at, inr (m, is, e)) =
    let second = subst (λ (o : Option NodeId). MatchOption o (¬ IsTwoEnded x.kind) (λ k. IsTwoEnded x.kind
    × (k.0 < node_count d) × (k.0 ≢ x.first.0))) is (station.items.switches_fit i x at).second in
    subst (λ k. k < node_count d) e second.1
touched_in d station (a_link i) n (x, at, inl e) = subst (λ k. k < node_count d) e
    (station.items.links_fit i x at).first_in
touched_in d station (a_link i) n (x, at, inr e) = subst (λ k. k < node_count d) e
    (station.items.links_fit i x at).second_in
touched_in d station (a_tap i) n (x, at, e) = subst (λ k. k < node_count d) e (station.items.taps_fit i x at).node_in

pub shared_in : (d : Diagram) → IsStation d → (part n : ℕ) → IsShared d part n → n < node_count d
shared_in d station part n h = touched_in d station h.here.item n h.here.touches
