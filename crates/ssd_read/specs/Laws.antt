-- What is known of a station and of the elements of its drawing, in plain words.
use Rattle.std.specs.Prelude.{◌≡◌, ℕ, ◌<◌, List, length, map, filter}
use Rattle.std.specs.List.{filter_map, flat_map, range_with_len}
use Rattle.station_graph.specs.declared.items.Switch.{Switch}
use Rattle.station_graph.specs.declared.items.Link.{Link}
use Rattle.station_graph.specs.declared.items.Tap.{Tap}
use Rattle.station_graph.specs.Diagram.{Diagram}
use Rattle.ssd_read.specs.Elements.{Element, element_at, role_in, unless_grounded, path_in}
use Rattle.ssd_read.specs.Names.{is_node}
use Rattle.ssd_read.specs.Steps.{is_part, item_steps_at}
use Rattle.ssd_read.specs.Lists.{switch_in, link_in, tap_in}

-- What an element is that stands in another: what its name is there, but nothing where it is a node named
-- `grounded`; and its path is that of the other and its name.
pub record StandsIn (all : List Element) (i p : ℕ) (front : List ℕ) : Type 0 where
  pub before : p < i
  pub role : (element_at all i).role ≡ unless_grounded (element_at all i).entry (role_in (element_at all p).role front
      (element_at all i).entry)
  pub within : (element_at all i).within ≡ (element_at all p).role
  pub path : (element_at all i).path ≡ path_in (element_at all p).path (element_at all i).role (element_at all i).entry

-- The element's path.
abbrev pub path_of : Element → List ℕ
path_of x = x.path

-- The numbers of the elements, in document order.
abbrev pub numbers_of : List Element → List ℕ
numbers_of all = range_with_len 0 (length all)

-- The switches, links and taps that an element gives by what it says.
abbrev pub switches_at : List Element → ℕ → List Switch
switches_at all i = filter_map switch_in (item_steps_at all i)

-- The links that the element at a place gives.
abbrev pub links_at : List Element → ℕ → List Link
links_at all i = filter_map link_in (item_steps_at all i)

-- The taps that the element at a place gives.
abbrev pub taps_at : List Element → ℕ → List Tap
taps_at all i = filter_map tap_in (item_steps_at all i)

-- The path of an element, for each switch that it gives.
abbrev pub switch_paths_at : List Element → ℕ → List (List ℕ)
switch_paths_at all i = map (λ x. (element_at all i).path) (switches_at all i)

-- Each list of a station has what the elements give, in document order: the paths of its parts are those
-- of the elements that are parts, those of its nodes are those of the elements that are nodes, those of
-- its switches are those of the equipment that gives them.
pub record HasInOrder (all : List Element) (d : Diagram) : Type 0 where
  pub parts : d.part_paths ≡ map path_of (filter is_part all)
  pub nodes : d.node_paths ≡ map path_of (filter is_node all)
  pub switches : d.switches ≡ flat_map (switches_at all) (numbers_of all)
  pub switch_paths : d.switch_paths ≡ flat_map (switch_paths_at all) (numbers_of all)
  pub links : d.links ≡ flat_map (links_at all) (numbers_of all)
  pub taps : d.taps ≡ flat_map (taps_at all) (numbers_of all)
