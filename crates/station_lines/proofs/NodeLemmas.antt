-- The nodes of a drawing are those of its station.
use Rattle.std.proofs.Common.{◌≡◌, ℕ, ◌<◌, List, length, map, get_or, Ok, sym, ap, ◌∙◌, subst}
use Rattle.std.specs.List.{filter}
use Rattle.std.proofs.lemmas.List.{length-map}
use Rattle.station_graph.specs.Diagram.{Diagram, node_count}
use Rattle.ssd_read.specs.Elements.{Element}
use Rattle.ssd_read.specs.Names.{is_node, keys_of, key_of}
use Rattle.ssd_read.specs.Ends.{ends_of, end_of, nodes_at, is_terminal_of}
use Rattle.ssd_read.specs.Steps.{built, steps_of, winding_ends_of, is_winding_terminal_of}
use Rattle.ssd_read.specs.Seen.{AreNodes}
use Rattle.ssd_read.specs.Laws.{path_of, numbers_of}
use Rattle.ssd_read.specs.StandsFor.{station_of, fault_of}
use Rattle.station_graph.specs.Diagram.{empty}
use Rattle.ssd_read.proofs.InOrder.{no_root_fault}
use Rattle.ssd_read.proofs.NewPaths.{laid_nodes}
use Rattle.ssd_read.proofs.Numbered.{nodes_below}
use Rattle.station_lines.specs.Lines.{nodes_of}

pub nodes_are : (all : List Element) (d : Diagram) → station_of all ≡ Ok d → d.node_paths ≡ nodes_of all
nodes_are all d h =
    laid_nodes all (numbers_of all) d (no_root_fault (fault_of all) (built empty (steps_of all)) d h)

counts : (all : List Element) (d : Diagram) → station_of all ≡ Ok d → length (keys_of all) ≡ node_count d
counts all d h =
    length-map (filter is_node all) key_of
    ∙ (sym (length-map (filter is_node all) path_of) ∙ ap length (sym (nodes_are all d h)))

all_nodes : (all xs : List Element) (d : Diagram) → station_of all ≡ Ok d →
    AreNodes d (nodes_at (map (end_of all) xs))
all_nodes all xs d h = λ k l.
    subst (λ (n : ℕ). get_or (nodes_at (map (end_of all) xs)) k 0 < n) (counts all d h) (nodes_below all xs k l)

pub own_nodes : (all : List Element) (i : ℕ) (d : Diagram) → station_of all ≡ Ok d →
    AreNodes d (nodes_at (ends_of all i))
own_nodes all i d h = all_nodes all (filter (is_terminal_of i) all) d h

pub winding_nodes : (all : List Element) (i : ℕ) (d : Diagram) → station_of all ≡ Ok d →
    AreNodes d (nodes_at (winding_ends_of all i))
winding_nodes all i d h = all_nodes all (filter (is_winding_terminal_of all i) all) d h
