-- Nodes by their places in a list, and a pool whose values speak of other nodes.
use Rattle.std.specs.Prelude.{ℕ, ◌+◌, List, map, slice_index_or, Vec}
use Rattle.std.proofs.lemmas.List.{length-map}
use Rattle.std.proofs.Common.{sym, ◌∙◌}
use Rattle.station_graph.specs.declared.limits.TheConstants.{NODES}
use Rattle.contraction.specs.Renaming.{mapped}
use Rattle.judge_pool.specs.declared.pool.Pool.{Pool}

-- The node at a place of the list; past its end a number that no node has.
abbrev pub node_listed : List ℕ → ℕ → ℕ
node_listed nodes place = slice_index_or nodes place (NODES + place)

-- The Vec with each element mapped.
abbrev pub with_mapped : {X Z : Type 0} → (X → X) → Vec X Z → Vec X Z
with_mapped g v = record {
  ptr = v.ptr;
  len = v.len;
  cap = v.cap;
  alloc = v.alloc;
  items = map g v.items;
  ok = (v.ok.0 ∙ sym (length-map v.items g), v.ok.1);
  small = v.small;
}

-- The pool as it is where other nodes stand in place of those that its values keep.
abbrev pub pool_on : (ℕ → ℕ) → Pool → Pool
pool_on f p = record {
  view = p.view;
  values = with_mapped (mapped f) p.values;
  index = p.index;
  keeps = with_mapped (map f) p.keeps;
  keep_numbers = p.keep_numbers;
  letters = p.letters;
  letter_places = p.letter_places;
  layers = p.layers;
  layer_places = p.layer_places;
  made = p.made;
  notes = p.notes;
  selection = p.selection;
  empty_views = p.empty_views;
  seats = p.seats;
  stands = p.stands;
  list_stands = p.list_stands;
}
