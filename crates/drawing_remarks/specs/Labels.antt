-- Which remarks are said, by labels of what links alone join and of what all items join.
use Rattle.std.specs.Prelude.{◌≡◌, ℕ, Bool, false, ◌==◌, ◌&&◌, ◌||◌, not, nat_lt, List, length, slice_get}
use Rattle.std.specs.Prelude.{slice_index, Ok}
use Rattle.std.specs.List.{list_any}
use Rattle.std.specs.Option.{option_map_or}
use Rattle.ilk_base.specs.declared.words.NodeId.{NodeId}
use Rattle.station_graph.specs.declared.items.Switch.{Switch}
use Rattle.station_graph.specs.Diagram.{Diagram, IsStation, node_count}
use Rattle.ssd_read.specs.Elements.{Element, element_at}
use Rattle.ssd_read.specs.Names.{is_node}
use Rattle.ssd_read.specs.Ends.{ends_of, nodes_at}
use Rattle.ssd_read.specs.StandsFor.{station_of}
use Rattle.ssd_read.specs.Drawn.{IsDrawn}
use Rattle.drawing_remarks.specs.declared.kinds.RemarkKind.{RemarkKind}
use Rattle.drawing_remarks.specs.declared.kinds.RemarkKind.TheVariants.{NoSwitch, NoInfeed, PassedOver, UnknownType}
use Rattle.drawing_remarks.specs.declared.kinds.RemarkKind.TheVariants.{TypeCase, Grounded, NoBond, LoneInfeed, Winding}
use Rattle.drawing_remarks.specs.declared.kinds.RemarkKind.TheVariants.{EarthName, LooseEnd, Apart, TwoNodes}
use Rattle.drawing_remarks.specs.declared.facts.Facts.{Facts}
use Rattle.drawing_remarks.specs.Drawn.{is_passed_over, has_unknown_type, has_type_in_case, is_oddly_grounded, is_no_bond}
use Rattle.drawing_remarks.specs.Drawn.{is_joining_winding, is_named_as_earth, names_two_nodes, equipment_use}
use Rattle.drawing_remarks.specs.Drawn.{is_infeed_use}
use Rattle.drawing_remarks.specs.Station.{has_no_switch, has_no_infeed, is_loose_end, node_number}

-- A switch with two ends has one with this label.
abbrev pub gap_labelled : List ℕ → ℕ → Switch → Bool
gap_labelled labels label x =
    option_map_or (λ (m : NodeId). (slice_index labels x.first.0 == label) || (slice_index labels m.0 == label))
    x.second false

-- No switch with two ends has one with the node's label.
abbrev pub lone_by : List ℕ → Diagram → ℕ → Bool
lone_by labels d n = not (list_any (gap_labelled labels (slice_index labels n)) d.switches)

-- The node is not the first, and is its own label.
abbrev pub apart_by : List ℕ → ℕ → Bool
apart_by labels n = nat_lt 0 n && (slice_index labels n == n)

-- A remark of this kind is said of the element at a place.
abbrev pub is_said : List Element → Diagram → List ℕ → List ℕ → RemarkKind → ℕ → Bool
is_said all d linked joined NoSwitch i = (i == 0) && has_no_switch d
is_said all d linked joined NoInfeed i = (i == 0) && has_no_infeed d
is_said all d linked joined PassedOver i = is_passed_over all (element_at all i)
is_said all d linked joined UnknownType i = has_unknown_type (element_at all i)
is_said all d linked joined TypeCase i = has_type_in_case (element_at all i)
is_said all d linked joined Grounded i = is_oddly_grounded all i (element_at all i)
is_said all d linked joined NoBond i = is_no_bond all i (element_at all i)
is_said all d linked joined LoneInfeed i =
    is_infeed_use (equipment_use (element_at all i))
    && option_map_or (lone_by linked d) (slice_get (nodes_at (ends_of all i)) 0) false
is_said all d linked joined Winding i = is_joining_winding all i (element_at all i)
is_said all d linked joined EarthName i = is_named_as_earth (element_at all i)
is_said all d linked joined LooseEnd i = is_loose_end all d i
is_said all d linked joined Apart i = is_node (element_at all i) && apart_by joined (node_number all i)
is_said all d linked joined TwoNodes i = names_two_nodes (element_at all i)

-- The station is that of the drawing, and there is a label for each of its nodes.
pub record AreFacts (f : Facts) : Type 0 where
  pub drawn : IsDrawn f.whole.now
  pub stands : station_of f.whole.now ≡ Ok f.station.now
  pub is_station : IsStation f.station.now
  pub linked_len : length f.linked ≡ node_count f.station.now
  pub joined_len : length f.joined ≡ node_count f.station.now
