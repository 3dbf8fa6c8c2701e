-- What labels tell of supply: a class is what is joined.
use Rattle.std.proofs.Common.{ℕ, ◌<◌, Bool, false, List, subst}
use Rattle.ilk_base.specs.declared.words.Kind.{Kind}
use Rattle.station_graph.specs.Diagram.{Diagram, HasTap, IsStation, node_count}
use Rattle.station_graph.specs.Connection.{Joined, Touching}
use Rattle.station_graph.specs.Supply.{ClosedAt, Quiet}
use Rattle.station_graph.specs.Classes.{LabelsLeast}
use Rattle.station_graph.proofs.ClassesLemmas.{same_from_linked, linked_from_same}
use Rattle.central_rules.specs.InClass.{ClosedInClass, TapInClass}
use Rattle.station_graph.proofs.PartialEdges.{touching_back}

-- w is the vector of the labels, and v that of the supply.
module _ (d : Diagram) (station : IsStation d) (w v : List Bool) (labels : List ℕ)
    (least : LabelsLeast (Touching false d w) (node_count d) labels) where
  pub joined_from_closed : (kind : Kind) (n : ℕ) → n < node_count d → ClosedInClass d v kind labels n → (m : ℕ)
      × Joined d w n m × ClosedAt d v kind m
  joined_from_closed kind n n_in (m, same, at) =
      let m_in : m < node_count d = subst (λ k. k < node_count d) at.stands (station.items.switches_fit at.number
      at.switch at.listed).first_in in (
        m,
        linked_from_same (Touching false d w) (node_count d) labels n m (touching_back false d w) least n_in
            m_in same,
        at,
      )

  pub closed_from_joined : (kind : Kind) (n : ℕ) → n < node_count d → (m : ℕ) × Joined d w n m × ClosedAt d v kind m →
      ClosedInClass d v kind labels n
  closed_from_joined kind n n_in (m, join, at) =
      let m_in : m < node_count d = subst (λ k. k < node_count d) at.stands (station.items.switches_fit at.number
      at.switch at.listed).first_in in (
        m,
        same_from_linked (Touching false d w) (node_count d) labels n m (touching_back false d w) least n_in
            m_in join,
        at,
      )

  tap_in : (m : ℕ) → HasTap d m → m < node_count d
  tap_in m (i, x, listed, at) = subst (λ k. k < node_count d) at (station.items.taps_fit i x listed).node_in

  pub quiet_from_none : (n : ℕ) → n < node_count d → ¬ TapInClass d labels n → Quiet d w n
  quiet_from_none n n_in none m tap join =
      none (
        m,
        same_from_linked (Touching false d w) (node_count d) labels n m (touching_back false d w) least n_in
            (tap_in m tap) join,
        tap,
      )

  pub loaded_from_tap : (n : ℕ) → n < node_count d → TapInClass d labels n → ¬ Quiet d w n
  loaded_from_tap n n_in (m, same, tap) quiet =
      quiet m tap (linked_from_same (Touching false d w) (node_count d) labels n m (touching_back false d w) least n_in
      (tap_in m tap) same)
