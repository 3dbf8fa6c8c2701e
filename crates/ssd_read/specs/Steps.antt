-- What a drawing adds to a station, step by step, and the first limit that it passes.
use Rattle.std.specs.Prelude.{ℕ, Bool, false, ◌==◌, ◌&&◌, ◌||◌, not, List, [], ◌∷◌, ◌++◌, length, map, filter, take}
use Rattle.std.specs.Prelude.{slice_get, Option, Some, None, Result, Ok, Err, if◌then◌else◌}
use Rattle.std.specs.List.{flat_map, range_with_len}
use Rattle.std.specs.Option.{option_map_or, option_and_then, unwrap_or}
use Rattle.ilk_base.specs.declared.words.Kind.{Kind}
use Rattle.ilk_base.specs.declared.words.Kind.TheVariants.{Breaker, Disconnector, Earthing, Infeed}
use Rattle.station_graph.specs.declared.items.Switch.{Switch}
use Rattle.station_graph.specs.declared.items.Link.{Link}
use Rattle.station_graph.specs.declared.items.Tap.{Tap}
use Rattle.station_graph.specs.declared.fault.What.{What}
use Rattle.station_graph.specs.Diagram.{Diagram}
use Rattle.station_graph.specs.Building.{part_limit, node_limit, link_limit, tap_limit, switch_limit, path_in_part}
use Rattle.ssd_text.specs.Nesting.{Entry}
use Rattle.ssd_read.specs.declared.role.Role.TheVariants.{Bay, ConnectivityNode, ConductingEquipment, PowerTransformer}
use Rattle.ssd_read.specs.declared.role.Role.TheVariants.{TransformerWinding, Terminal}
use Rattle.ssd_read.specs.declared.refusal.SsdRefusal.{SsdRefusal}
use Rattle.ssd_read.specs.declared.refusal.SsdRefusal.TheVariants.{Limit}
use Rattle.ssd_read.specs.Elements.{Element, element_at, element_name, same_role}
use Rattle.ssd_read.specs.Types.{type_of, is_bond_type, is_tapless_type}
use Rattle.ssd_read.specs.declared.terminal_place.TerminalPlace.{TerminalPlace}
use Rattle.ssd_read.specs.declared.types.Use.{Use}
use Rattle.ssd_read.specs.declared.types.Use.TheVariants as uses
use Rattle.ssd_read.specs.Ends.{end_of, ends_of, nodes_at, is_number, use_of}

-- One thing that is added to a station.
pub data Step : Type 0 where
  a_part : List ℕ → Step
  a_node : List ℕ → Step
  a_switch : List ℕ → Switch → Step
  a_link : Link → Step
  a_tap : Tap → Step

-- ---- parts and nodes

-- A bay, or a transformer that stands outside a bay.
abbrev pub is_part : Element → Bool
is_part x = same_role x.role Bay || (same_role x.role PowerTransformer && not (same_role x.within Bay))

-- What an element adds as a part or as a node, if it is one.
abbrev pub naming_step : Element → List Step
naming_step x =
    if is_part x then a_part x.path ∷ []
    else if same_role x.role ConnectivityNode then a_node x.path ∷ []
    else []

-- Parts are numbered in document order. The number of the part that element i is.
abbrev pub part_number : List Element → ℕ → ℕ
part_number all i = length (filter is_part (take i all))

-- The number of the part to which element i belongs.
abbrev pub part_of : List Element → ℕ → Element → ℕ
part_of all i x = if is_part x then part_number all i else part_number all (unwrap_or x.entry.parent 0)

-- ---- equipment

-- One switch, link or tap.
abbrev pub switch_step : ℕ → List ℕ → Kind → ℕ → Option ℕ → Step
switch_step part name kind first None = a_switch name (record {
  kind = kind;
  first = record { 0 = first };
  second = None;
  bay = record { 0 = part };
})
switch_step part name kind first (Some second) = a_switch name (record {
  kind = kind;
  first = record { 0 = first };
  second = Some (record { 0 = second });
  bay = record { 0 = part };
})

-- A tap at a node.
abbrev pub tap_step : ℕ → ℕ → Step
tap_step part n = a_tap (record { node = record { 0 = n }; part = record { 0 = part } })

-- A tap at each of the nodes.
abbrev pub tap_steps : ℕ → List ℕ → List Step
tap_steps part ns = flat_map (λ n. tap_step part n ∷ []) ns

-- A link between two nodes, where they differ.
abbrev pub link_step : Bool → ℕ → ℕ → ℕ → List Step
link_step bond part a b = if a == b then [] else a_link (record {
  first = record { 0 = a };
  second = record { 0 = b };
  bond = bond;
  part = record { 0 = part };
}) ∷ []

-- A link between each two neighbours on different nodes.
abbrev pub links_after : Bool → ℕ → ℕ → List ℕ → List Step
links_after bond part a [] = []
links_after bond part a (b ∷ ns) = link_step bond part a b ++ links_after bond part b ns

-- A link between each two neighbours of the list.
abbrev pub links_along : Bool → ℕ → List ℕ → List Step
links_along bond part [] = []
links_along bond part (a ∷ ns) = links_after bond part a ns

-- The equipment gives bonds, by its type.
abbrev pub is_bond : Entry → Bool
is_bond e = is_bond_type (type_of e)

-- The equipment is no load, by its type.
abbrev pub is_tapless : Entry → Bool
is_tapless e = is_tapless_type (type_of e)

-- A tap where there is one node alone.
abbrev pub lone_tap : Entry → ℕ → List ℕ → List Step
lone_tap e part (a ∷ []) = if is_tapless e then [] else tap_step part a ∷ []
lone_tap e part _ = []

-- A breaker between two nodes.
abbrev pub breaker_steps : ℕ → List ℕ → List ℕ → List Step
breaker_steps part name (a ∷ b ∷ ns) = switch_step part name Breaker a (Some b) ∷ []
breaker_steps part name _ = []

-- A disconnector between two nodes, or an earthing switch at one.
abbrev pub disconnector_steps : ℕ → List ℕ → List ℕ → List Step
disconnector_steps part name [] = []
disconnector_steps part name (a ∷ []) = switch_step part name Earthing a None ∷ []
disconnector_steps part name (a ∷ b ∷ ns) = switch_step part name Disconnector a (Some b) ∷ []

-- An infeed at a node, with a tap.
abbrev pub infeed_steps : ℕ → List ℕ → List ℕ → List Step
infeed_steps part name [] = []
infeed_steps part name (a ∷ ns) = switch_step part name Infeed a None ∷ tap_step part a ∷ []

-- What equipment gives, by its use, its part and the nodes of its ends that are not grounded.
abbrev pub use_steps : Use → Entry → ℕ → List ℕ → List Step
use_steps uses.Breaker e part ns = breaker_steps part (element_name e) ns
use_steps uses.Disconnector e part ns = disconnector_steps part (element_name e) ns
use_steps uses.Infeed e part ns = infeed_steps part (element_name e) ns
use_steps uses.Other e part ns = links_along (is_bond e) part ns ++ lone_tap e part ns

-- ---- transformers

-- x is a terminal of a winding that stands in element i.
abbrev pub is_winding_terminal_of : List Element → ℕ → Element → Bool
is_winding_terminal_of all i x =
    same_role x.role Terminal && same_role x.within TransformerWinding
    && is_number i (option_and_then (λ w. w.entry.parent) (option_and_then (slice_get all) x.entry.parent))

-- The ends of all windings of element i together, in document order.
abbrev pub winding_ends_of : List Element → ℕ → List TerminalPlace
winding_ends_of all i = map (end_of all) (filter (is_winding_terminal_of all i) all)

-- A transformer gives all its links, which are no bonds, and then a tap at each end.
abbrev pub transformer_steps : ℕ → List ℕ → List Step
transformer_steps part ns = links_along false part ns ++ tap_steps part ns

-- ---- all steps

-- What element i gives, which is x.
abbrev pub item_steps : List Element → ℕ → Element → List Step
item_steps all i x =
    if same_role x.role ConductingEquipment then use_steps (use_of x.entry) x.entry (part_of all i x)
    (nodes_at (ends_of all i))
    else if same_role x.role PowerTransformer then transformer_steps (part_of all i x)
    (nodes_at (winding_ends_of all i))
    else []

-- What the element at a place gives.
abbrev pub item_steps_at : List Element → ℕ → List Step
item_steps_at all i = item_steps all i (element_at all i)

-- First all parts and nodes, then all equipment, each in document order.
abbrev pub steps_of : List Element → List Step
steps_of all = flat_map naming_step all ++ flat_map (item_steps_at all) (range_with_len 0 (length all))

-- The parts and nodes, and then what the first elements give.
abbrev pub steps_before : List Element → ℕ → List Step
steps_before all i = flat_map naming_step all ++ flat_map (item_steps_at all) (take i (range_with_len 0 (length all)))

-- ---- building

-- The limit that a step would pass.
abbrev pub limit_at : Diagram → Step → Option (What × ℕ)
limit_at d (a_part path) = part_limit d
limit_at d (a_node path) = node_limit d
limit_at d (a_switch name x) = switch_limit d x.bay.0
limit_at d (a_link x) = link_limit d
limit_at d (a_tap x) = tap_limit d

-- The diagram with what a step adds.
abbrev pub added : Diagram → Step → Diagram
added d (a_part path) = record d { part_paths = d.part_paths ++ path ∷ [] }
added d (a_node path) = record d { node_paths = d.node_paths ++ path ∷ [] }
added d (a_switch name x) = record d {
  switches = d.switches ++ x ∷ [];
  switch_paths =
      d.switch_paths ++ path_in_part d x.bay.0 name ∷ [];
}
added d (a_link x) = record d { links = d.links ++ x ∷ [] }
added d (a_tap x) = record d { taps = d.taps ++ x ∷ [] }

-- The refusal for a limit that is passed.
abbrev pub limit_fault : What × ℕ → SsdRefusal
limit_fault l = Limit l.0 l.1

-- The diagram after these steps, or the first limit that a step passes.
unfoldable pub built : Diagram → List Step → Result Diagram SsdRefusal
built d [] = Ok d
built d (s ∷ ss) = option_map_or (λ l. Err (limit_fault l)) (limit_at d s) (built (added d s) ss)
