-- Where a path stands among the names.
use Rattle.std.proofs.Common.{◌≡◌, ◌+◌, ◌<◌, ℕ, [], length, get_or, sym, ap, ◌∙◌, arith, length-append}
use Rattle.std.proofs.lemmas.List.{get_or_append_left, get_or-append-add}
use Rattle.station_graph.specs.Diagram.{Diagram, IsStation, node_path, part_count, switch_path}
use Rattle.path_names.specs.Tables.{paths_of, paths_of_both, paths_of_items}

-- how many names a station has
names_of : (d : Diagram) → IsStation d → length (paths_of d) ≡ length d.switches + part_count d
names_of d is = length-append d.switch_paths d.part_paths ∙ ap (λ n. n + part_count d) is.items.paths

pub switch_place : (d : Diagram) → IsStation d → (i : ℕ) → i < length d.switches →
    get_or (paths_of d) i [] ≡ switch_path d i
switch_place d is i within =
    get_or_append_left d.switch_paths d.part_paths [] i (omega (arith, is.items.paths, within))

pub part_place : (d : Diagram) → IsStation d → (p : ℕ) → get_or (paths_of d) (length d.switches + p) [] ≡
    get_or d.part_paths p []
part_place d is p =
    ap (λ n. get_or (paths_of d) (n + p) []) (sym is.items.paths) ∙ get_or-append-add d.switch_paths d.part_paths p []

-- ---- those of the new station

pub new_switch : (o n : Diagram) → IsStation n → (i : ℕ) → i < length n.switches →
    get_or (paths_of_both o n) i [] ≡ switch_path n i
new_switch o n is i within =
    get_or_append_left (paths_of n) (paths_of o) [] i (omega (arith, names_of n is, within)) ∙ switch_place n is i within

pub new_part : (o n : Diagram) → IsStation n → (k p : ℕ) → k ≡ length n.switches + p → p < part_count n →
    get_or (paths_of_both o n) k [] ≡ get_or n.part_paths p []
new_part o n is k p at within =
    get_or_append_left (paths_of n) (paths_of o) [] k (omega (arith, names_of n is, at, within))
    ∙ ap (λ m. get_or (paths_of n) m []) at ∙ part_place n is p

-- ---- those of the old station

behind : (o n : Diagram) → IsStation n → (k m : ℕ) → k ≡ (length n.switches + part_count n) + m →
    get_or (paths_of_both o n) k [] ≡ get_or (paths_of o) m []
behind o n is k m at =
    let e : k ≡ length (paths_of n) + m = at ∙ ap (λ j. j + m) (sym (names_of n is)) in
    ap (λ j. get_or (paths_of_both o n) j []) e ∙ get_or-append-add (paths_of n) (paths_of o) m []

pub old_switch : (o n : Diagram) → IsStation o → IsStation n → (k i : ℕ) → k ≡ (length n.switches + part_count n) + i →
    i < length o.switches → get_or (paths_of_both o n) k [] ≡ switch_path o i
old_switch o n old new k i at within = behind o n new k i at ∙ switch_place o old i within

pub old_part : (o n : Diagram) → IsStation o → IsStation n → (k p : ℕ) →
    k ≡ (length n.switches + part_count n) + (length o.switches + p) →
    get_or (paths_of_both o n) k [] ≡ get_or o.part_paths p []
old_part o n old new k p at = behind o n new k (length o.switches + p) at ∙ part_place o old p

-- ---- those of a station's switches and nodes

pub item_switch_place : (d : Diagram) → IsStation d → (i : ℕ) → i < length d.switches →
    get_or (paths_of_items d) i [] ≡ switch_path d i
item_switch_place d is i within =
    get_or_append_left d.switch_paths d.node_paths [] i (omega (arith, is.items.paths, within))

pub item_node_place : (d : Diagram) → IsStation d → (k n : ℕ) → k ≡ length d.switches + n →
    get_or (paths_of_items d) k [] ≡ node_path d n
item_node_place d is k n at =
    ap (λ m. get_or (paths_of_items d) m []) (at ∙ ap (λ m. m + n) (sym is.items.paths))
    ∙ get_or-append-add d.switch_paths d.node_paths n []
