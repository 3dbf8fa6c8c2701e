-- What an item of a station touches is one of its nodes.
use Rattle.std.proofs.Common.{◌≢◌, ◌<◌, ℕ, Option, subst, inl, inr}
use Rattle.std.specs.Prelude.{MatchOption}
use Rattle.ilk_base.specs.declared.words.NodeId.{NodeId}
use Rattle.station_graph.specs.Diagram.{Diagram, IsStation, IsTwoEnded, node_count}
use Rattle.station_graph.specs.Connection.{Item, a_switch, a_link, a_tap}
use Rattle.station_graph.specs.Sharing.{Touches}

pub touched_in : (d : Diagram) → IsStation d → (item : Item) (n : ℕ) → Touches d item n → n < node_count d
touched_in d station (a_switch i) n (x, at, inl e) = subst (λ k. k < node_count d) e
    (station.items.switches_fit i x at).first_in
touched_in d station (a_switch i) n (x, at, inr (m, is, e)) =
    let second = subst (λ (o : Option NodeId). MatchOption o (¬ IsTwoEnded x.kind) (λ k. IsTwoEnded x.kind
    × (k.0 < node_count d) × (k.0 ≢ x.first.0))) is (station.items.switches_fit i x at).second in
    subst (λ k. k < node_count d) e second.1
touched_in d station (a_link i) n (x, at, inl e) = subst (λ k. k < node_count d) e
    (station.items.links_fit i x at).first_in
touched_in d station (a_link i) n (x, at, inr e) = subst (λ k. k < node_count d) e
    (station.items.links_fit i x at).second_in
touched_in d station (a_tap i) n (x, at, e) = subst (λ k. k < node_count d) e (station.items.taps_fit i x at).node_in
