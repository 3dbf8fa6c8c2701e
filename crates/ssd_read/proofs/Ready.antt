-- An item fits where a builder adds it.
use Rattle.std.proofs.Common.{◌≡◌, ℕ, ◌≤◌, ◌<◌, ◌-◌, List, [], ◌++◌, length, take, Some, None, Ok, refl, arith, ap, ◌∙◌}
use Rattle.std.proofs.Common.{sym, subst}
use Rattle.std.specs.List.{filter_map, flat_map, slice_get, range_with_len, Contains}
use Rattle.std.proofs.lemmas.List.Elements.{filter_map-append}
use Rattle.station_graph.specs.Diagram.{Diagram, empty, part_count}
use Rattle.station_graph.specs.Building.{FollowsLast, path_in_part}
use Rattle.station_graph.specs.declared.items.Switch.{Switch}
use Rattle.ssd_text.specs.Nesting.{Entry, IsInOrder}
use Rattle.ssd_read.specs.declared.terminal_place.TerminalPlace.{TerminalPlace}
use Rattle.ssd_read.specs.declared.role.Role.TheVariants.{ConductingEquipment, PowerTransformer}
use Rattle.ssd_read.specs.Drawn.{IsDrawn}
use Rattle.ssd_read.specs.Elements.{Element, element_at, elements_of, element_name}
use Rattle.ssd_read.specs.Names.{first_fault, name_fault}
use Rattle.ssd_read.specs.Ends.{ends_of, fault_of_ends, end_fault}
use Rattle.ssd_read.specs.Steps.{Step, built, naming_step, part_of, item_steps_at, steps_before}
use Rattle.ssd_read.specs.Lists.{switch_in}
use Rattle.ssd_read.proofs.Faults.{end_is}
use Rattle.ssd_read.proofs.Laid.{switches_built, no_switches_named}
use Rattle.ssd_read.proofs.Given.{AllSwitches, all_before, switch_at}
use Rattle.ssd_read.proofs.Numbered.{parts_rise, equipment_in, transformer_in}
use Rattle.ssd_read.proofs.Drawn.{drawn_len}
use Rattle.ssd_read.proofs.NewPaths.{part_total, is_equipment, none_at}
use Rattle.ssd_read.proofs.SwitchPaths.{new_tree}

-- ---- the order of switches

follows_tree : (tree : List Entry) (i : ℕ) (d : Diagram) → IsInOrder tree → i < length tree →
    (element_at (elements_of tree) i).role ≡ ConductingEquipment →
    built empty (steps_before (elements_of tree) i) ≡ Ok d
    → FollowsLast d (part_of (elements_of tree) i (element_at (elements_of tree) i))
follows_tree tree i d o h r b =
    let all : List Element = elements_of tree in
    let part : ℕ = part_of all i (element_at all i) in
    let items : List Step = flat_map (item_steps_at all) (take i (range_with_len 0 (length all))) in
    let Q : List ℕ → Switch → Type 0 = λ name x. x.bay.0 ≤ part in
    let given : AllSwitches Q items = all_before Q all i (λ k l t x e. subst (λ (n : ℕ). n ≤ part) (sym e)
    (parts_rise tree k i o (omega arith) h (is_equipment (element_at all k).role t) r)) in
    let switches : d.switches ≡ filter_map switch_in items = switches_built empty d (steps_before all i) b
    ∙ (filter_map-append switch_in (flat_map naming_step all) items ∙ ap (λ l. l ++ filter_map switch_in items)
    (no_switches_named all)) in
    λ x e. switch_at Q (λ (x : Switch). x.bay.0 ≤ part) (λ name x h. h) items (length d.switches - 1) x given
    (subst (λ (xs : List Switch). slice_get xs (length d.switches - 1) ≡ Some x) switches e)

-- ---- over the elements of any tree

pub over_trees : (P : List Element → Type 0) → ((tree : List Entry) → IsInOrder tree → P (elements_of tree)) →
    (all : List Element) → IsDrawn all → P all
over_trees P h all d = subst P (sym d.2) (h d.0 d.1)

pub follows : (all : List Element) (i : ℕ) (d : Diagram) → IsDrawn all → i < length all →
    (element_at all i).role ≡ ConductingEquipment → built empty (steps_before all i) ≡ Ok d →
    FollowsLast d (part_of all i (element_at all i))
follows all i d g =
    over_trees (λ all. i < length all → (element_at all i).role ≡ ConductingEquipment →
    built empty (steps_before all i) ≡ Ok d → FollowsLast d (part_of all i (element_at all i)))
    (λ tree o h r b. follows_tree tree i d o (omega (arith, drawn_len tree)) r b) all g

pub new_switch : (all : List Element) (i : ℕ) (d : Diagram) → IsDrawn all → i < length all →
    first_fault name_fault [] all ≡ None → (element_at all i).role ≡ ConductingEquipment →
    built empty (steps_before all i) ≡ Ok d
    → Contains d.switch_paths
    (path_in_part d (part_of all i (element_at all i)) (element_name (element_at all i).entry)) → ⊥
new_switch all i d g =
    over_trees (λ all. i < length all → first_fault name_fault [] all ≡ None →
    (element_at all i).role ≡ ConductingEquipment → built empty (steps_before all i) ≡ Ok d →
    Contains d.switch_paths (path_in_part d (part_of all i (element_at all i))
    (element_name (element_at all i).entry)) → ⊥)
    (λ tree o h n r b. new_tree tree i d o (omega (arith, drawn_len tree)) n r b) all g

pub equipment_part_in : (all : List Element) (i : ℕ) (d : Diagram) → IsDrawn all → i < length all →
    (element_at all i).role ≡ ConductingEquipment → built empty (steps_before all i) ≡ Ok d →
    part_of all i (element_at all i) < part_count d
equipment_part_in all i d g =
    over_trees (λ all. i < length all → (element_at all i).role ≡ ConductingEquipment →
    built empty (steps_before all i) ≡ Ok d → part_of all i (element_at all i) < part_count d)
    (λ tree o h r b. subst (λ (n : ℕ). part_of (elements_of tree) i (element_at (elements_of tree) i) < n)
    (sym (part_total (elements_of tree) i d b)) (equipment_in tree i o (omega (arith, drawn_len tree)) r)) all g

pub transformer_part_in : (all : List Element) (i : ℕ) (d : Diagram) → IsDrawn all → i < length all →
    (element_at all i).role ≡ PowerTransformer → built empty (steps_before all i) ≡ Ok d →
    part_of all i (element_at all i) < part_count d
transformer_part_in all i d g =
    over_trees (λ all. i < length all → (element_at all i).role ≡ PowerTransformer →
    built empty (steps_before all i) ≡ Ok d → part_of all i (element_at all i) < part_count d)
    (λ tree o h r b. subst (λ (n : ℕ). part_of (elements_of tree) i (element_at (elements_of tree) i) < n)
    (sym (part_total (elements_of tree) i d b)) (transformer_in tree i o (omega (arith, drawn_len tree)) r)) all g

-- ---- what pass 2 says

pub ends_good : (all : List Element) (i : ℕ) (ends : List TerminalPlace) → first_fault (end_fault all) [] all ≡ None →
    i < length all → ends ≡ ends_of all i → fault_of_ends (element_at all i) ends ≡ None
ends_good all i ends n h e = sym (end_is all i ends (fault_of_ends (element_at all i) ends) h e refl)
    ∙ none_at (end_fault all) all i n h
