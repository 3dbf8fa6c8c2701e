-- What a builder keeps with one more part or node, and the station that it makes at its end.
use Rattle.std.proofs.Common.{◌≡◌, ◌≢◌, ℕ, ◌+◌, ◌<◌, ◌≤◌, suc, false, eqb, List, [], ◌∷◌, ◌++◌, length, slice_get}
use Rattle.std.proofs.Common.{Contains, Option, Some, None, sym, ◌∙◌, ap, subst, arith}
use Rattle.std.specs.Prelude.{count_by, nat_lt, MatchOption}
use Rattle.std.specs.List.{range_with_len}
use Rattle.std.proofs.lemmas.List.{length_push}
use Rattle.std.proofs.lemmas.Bool.{ne_eqb, le-ltb}
use Rattle.ilk_base.specs.declared.words.NodeId.{NodeId}
use Rattle.station_graph.specs.declared.items.Switch.{Switch}
use Rattle.station_graph.specs.declared.items.Link.{Link}
use Rattle.station_graph.specs.declared.items.Tap.{Tap}
use Rattle.station_graph.specs.declared.limits.TheConstants.{PARTS, NODES}
use Rattle.station_graph.proofs.PathLemmas.{Differ-push}
use Rattle.station_graph.specs.Diagram.{Diagram, ItemsFit, Differ, IsStation, InfeedsTapped, SwitchFits, LinkFits}
use Rattle.station_graph.specs.Diagram.{TapFits, IsTwoEnded, node_count, part_count, bay_count, switches_in}
use Rattle.station_graph.specs.Building.{IsDraft, CountsBays}
use Rattle.station_graph.proofs.CountLemmas.{count_by-none, count_range-more}

-- an item that fits goes on to fit with more nodes and parts
pub switch_fits_more : (d e : Diagram) (x : Switch) → node_count d ≤ node_count e → part_count d ≤ part_count e →
    SwitchFits d x → SwitchFits e x
switch_fits_more d e x n p h = record {
  first_in = omega (arith, h.first_in);
  part_in = omega (arith, h.part_in);
  second = second_more x.second h.second;
} where
  second_more : (o : Option NodeId) → MatchOption o (¬ IsTwoEnded x.kind) (λ m. IsTwoEnded x.kind × (m.0 < node_count d)
      × (m.0 ≢ x.first.0)) → MatchOption o (¬ IsTwoEnded x.kind) (λ m. IsTwoEnded x.kind × (m.0 < node_count e)
      × (m.0 ≢ x.first.0))
  second_more None g = g
  second_more (Some m) g = (g.0, omega (arith, g.1), g.2)

pub link_fits_more : (d e : Diagram) (x : Link) → node_count d ≤ node_count e → part_count d ≤ part_count e →
    LinkFits d x → LinkFits e x
link_fits_more d e x n p h = record {
  first_in = omega (arith, h.first_in);
  second_in = omega (arith, h.second_in);
  apart = h.apart;
  part_in = omega (arith, h.part_in);
}

pub tap_fits_more : (d e : Diagram) (x : Tap) → node_count d ≤ node_count e → part_count d ≤ part_count e →
    TapFits d x → TapFits e x
tap_fits_more d e x n p h = record { node_in = omega (arith, h.node_in); part_in = omega (arith, h.part_in) }

-- a part that no switch has has no switches
pub switches_in-none : (d : Diagram) (part : ℕ) → ((i : ℕ) (x : Switch) → slice_get d.switches i ≡ Some x →
    x.bay.0 ≢ part) → switches_in d part ≡ 0
switches_in-none d part h = count_by-none (λ x. eqb x.bay.0 part) d.switches (λ i x e. ne_eqb x.bay.0 part (h i x e))

pub IsStation-from_draft : (d : Diagram) → IsDraft d → InfeedsTapped d → IsStation d
IsStation-from_draft d h tapped = record {
  items = h.items;
  paths_differ = h.paths_differ;
  neighbouring = λ i j k x y z ij jk xi yj zk same.
      let low = h.ordered i j x y ij xi yj in
      let high = h.ordered j k y z jk yj zk in
      omega arith;
  infeeds_tapped = tapped;
}

-- The diagram with one more part.
module _ (d : Diagram) (paths : List (List ℕ)) (p : List ℕ) (more : paths ≡ d.part_paths ++ p ∷ [])
    (room : part_count d < PARTS) where
  abbrev pub with_part : Diagram
  with_part = record d { part_paths = paths }

  one_part : length paths ≡ part_count d + 1
  one_part = ap length more ∙ length_push d.part_paths p

  bay_count-part : ItemsFit d → bay_count with_part ≡ bay_count d
  bay_count-part h =
      let empty : switches_in d (part_count d) ≡ 0 = switches_in-none d (part_count d)
      (λ i x e same. absurd (omega (arith, (h.switches_fit i x e).part_in))) in
      let without : nat_lt 0 (switches_in d (part_count d)) ≡ false = le-ltb 0 (switches_in d (part_count d))
      (omega arith) in
      let len : length paths ≡ suc (part_count d) = omega (arith, one_part) in
      let row : range_with_len 0 (length paths) ≡ range_with_len 0 (suc (part_count d)) = ap (range_with_len 0) len in
      ap (count_by (λ part. nat_lt 0 (switches_in d part))) row
      ∙ count_range-more (λ part. nat_lt 0 (switches_in d part)) 0 (part_count d) (part_count d) (omega arith) without

  pub IsDraft-part : ¬ Contains d.part_paths p → IsDraft d → IsDraft with_part
  IsDraft-part new h =
      let one = one_part in
      let items = h.items in
      record {
        items = record {
          paths = items.paths;
          nodes_few = items.nodes_few;
          parts_few = omega arith;
          bays_few = omega (arith, bay_count-part items, items.bays_few);
          switches_few = items.switches_few;
          each_bay_few = items.each_bay_few;
          links_few = items.links_few;
          taps_few = items.taps_few;
          switches_fit = λ i x e. switch_fits_more d with_part x (omega arith) (omega arith) (items.switches_fit i x e);
          links_fit = λ i x e. link_fits_more d with_part x (omega arith) (omega arith) (items.links_fit i x e);
          taps_fit = λ i x e. tap_fits_more d with_part x (omega arith) (omega arith) (items.taps_fit i x e);
        };
        paths_differ = record {
          nodes = h.paths_differ.nodes;
          parts = subst Differ (sym more) (Differ-push d.part_paths p new h.paths_differ.parts);
          switches = h.paths_differ.switches;
        };
        ordered = h.ordered;
      }

  pub CountsBays-part : (bays in_last : ℕ) → IsDraft d → CountsBays d bays in_last → CountsBays with_part bays in_last
  CountsBays-part bays in_last h c = record {
    all = c.all ∙ sym (bay_count-part h.items);
    last = c.last;
  }

-- The diagram with one more node.
module _ (d : Diagram) (paths : List (List ℕ)) (p : List ℕ) (more : paths ≡ d.node_paths ++ p ∷ [])
    (room : node_count d < NODES) where
  abbrev pub with_node : Diagram
  with_node = record d { node_paths = paths }

  one_node : length paths ≡ node_count d + 1
  one_node = ap length more ∙ length_push d.node_paths p

  pub IsDraft-node : ¬ Contains d.node_paths p → IsDraft d → IsDraft with_node
  IsDraft-node new h =
      let one = one_node in
      let items = h.items in
      record {
        items = record {
          paths = items.paths;
          nodes_few = omega arith;
          parts_few = items.parts_few;
          bays_few = items.bays_few;
          switches_few = items.switches_few;
          each_bay_few = items.each_bay_few;
          links_few = items.links_few;
          taps_few = items.taps_few;
          switches_fit = λ i x e. switch_fits_more d with_node x (omega arith) (omega arith) (items.switches_fit i x e);
          links_fit = λ i x e. link_fits_more d with_node x (omega arith) (omega arith) (items.links_fit i x e);
          taps_fit = λ i x e. tap_fits_more d with_node x (omega arith) (omega arith) (items.taps_fit i x e);
        };
        paths_differ = record {
          nodes = subst Differ (sym more) (Differ-push d.node_paths p new h.paths_differ.nodes);
          parts = h.paths_differ.parts;
          switches = h.paths_differ.switches;
        };
        ordered = h.ordered;
      }

  pub CountsBays-node : (bays in_last : ℕ) → CountsBays d bays in_last → CountsBays with_node bays in_last
  CountsBays-node bays in_last c = record { all = c.all; last = c.last }
