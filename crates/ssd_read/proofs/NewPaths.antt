-- The parts and nodes that a builder has, and paths that no earlier element has.
use Rattle.std.proofs.Common.{◌≡◌, ℕ, ◌≤◌, ◌<◌, ◌+◌, List, [], ◌∷◌, ◌++◌, length, take, drop, map, get_or, Option, Some}
use Rattle.std.proofs.Common.{None, Bool, true, false, ◌||◌, ◌&&◌, not, cond, Ok, add-one, refl, arith, zero, suc, ap}
use Rattle.std.proofs.Common.{◌∙◌, sym}
use Rattle.std.specs.List.{filter, filter_map, flat_map, range_with_len, list_any, Contains}
use Rattle.std.specs.Option.{option_or, option_map}
use Rattle.std.specs.Str.{bytes_eq}
use Rattle.std.proofs.lemmas.Slice.Eq.{bytes_eq-Decides}
use Rattle.std.proofs.lemmas.List.Elements.{filter_map-append}
use Rattle.station_graph.specs.Diagram.{Diagram, empty, node_count, part_count}
use Rattle.ssd_read.specs.declared.refusal.SsdRefusal.{SsdRefusal}
use Rattle.ssd_read.specs.declared.refusal.SsdRefusal.TheVariants.{NoName, Twice}
use Rattle.ssd_read.specs.declared.role.Role.{Role}
use Rattle.ssd_read.specs.declared.role.Role.TheVariants.{Root, Substation, VoltageLevel, Bay, ConnectivityNode}
use Rattle.ssd_read.specs.declared.role.Role.TheVariants.{ConductingEquipment, PowerTransformer, TransformerWinding}
use Rattle.ssd_read.specs.declared.role.Role.TheVariants.{Terminal, Skipped}
use Rattle.ssd_read.specs.Elements.{Element, element_at, same_role, counted_as}
use Rattle.ssd_read.specs.Names.{FaultAfter, first_fault, name_fault, is_nameless, is_taken, is_node, keys_of}
use Rattle.ssd_read.specs.Names.{same_path, same_key, counted_path}
use Rattle.ssd_read.specs.Steps.{built, is_part, naming_step, item_steps_at, steps_before}
use Rattle.ssd_read.specs.Lists.{part_path}
use Rattle.ssd_read.proofs.AddedPaths.{added_node}
use Rattle.ssd_read.proofs.Taken.{append_none}
use Rattle.ssd_read.proofs.Faults.{first_at}
use Rattle.ssd_read.proofs.Ended.{map_keys_len}
use Rattle.ssd_read.proofs.Laid.{part_paths_built, node_paths_built, parts_named, nodes_named}
use Rattle.ssd_read.proofs.Given.{all_items, no_parts, no_nodes}

-- ---- parts and nodes

no_more : {X : Type 0} (xs ys : List X) → ys ≡ [] → xs ++ ys ≡ xs
no_more xs ys h = ap (λ l. xs ++ l) h ∙ append_none xs

pub laid_parts : (all : List Element) (is : List ℕ) (d : Diagram) →
    built empty (flat_map naming_step all ++ flat_map (item_steps_at all) is) ≡ Ok d →
    d.part_paths ≡ map (λ (x : Element). x.path) (filter is_part all)
laid_parts all is d h =
    part_paths_built empty d (flat_map naming_step all ++ flat_map (item_steps_at all) is) h
    ∙ (filter_map-append part_path (flat_map naming_step all) (flat_map (item_steps_at all) is)
    ∙ (no_more (filter_map part_path (flat_map naming_step all))
    (filter_map part_path (flat_map (item_steps_at all) is)) (no_parts (flat_map (item_steps_at all) is)
    (all_items all is)) ∙ parts_named all))

pub laid_nodes : (all : List Element) (is : List ℕ) (d : Diagram) →
    built empty (flat_map naming_step all ++ flat_map (item_steps_at all) is) ≡ Ok d →
    d.node_paths ≡ map (λ (x : Element). x.path) (filter is_node all)
laid_nodes all is d h =
    node_paths_built empty d (flat_map naming_step all ++ flat_map (item_steps_at all) is) h
    ∙ (filter_map-append added_node (flat_map naming_step all) (flat_map (item_steps_at all) is)
    ∙ (no_more (filter_map added_node (flat_map naming_step all))
    (filter_map added_node (flat_map (item_steps_at all) is)) (no_nodes (flat_map (item_steps_at all) is)
    (all_items all is)) ∙ nodes_named all))

pub paths_len : (xs : List Element) → length (map (λ (x : Element). x.path) xs) ≡ length xs
paths_len [] = refl
paths_len (x ∷ xs) = ap suc (paths_len xs)

pub part_total : (all : List Element) (i : ℕ) (d : Diagram) → built empty (steps_before all i) ≡ Ok d →
    part_count d ≡ length (filter is_part all)
part_total all i d h = ap length (laid_parts all (take i (range_with_len 0 (length all))) d h)
    ∙ paths_len (filter is_part all)

pub node_total : (all : List Element) (i : ℕ) (d : Diagram) → built empty (steps_before all i) ≡ Ok d →
    node_count d ≡ length (keys_of all)
node_total all i d h = ap length (laid_nodes all (take i (range_with_len 0 (length all))) d h)
    ∙ (paths_len (filter is_node all) ∙ sym (map_keys_len (filter is_node all)))

-- ---- equipment

pub is_equipment : (r : Role) → same_role r ConductingEquipment ≡ true → r ≡ ConductingEquipment
is_equipment Root h = absurd (cc)
is_equipment Substation h = absurd (cc)
is_equipment VoltageLevel h = absurd (cc)
is_equipment Bay h = absurd (cc)
is_equipment ConnectivityNode h = absurd (cc)
is_equipment ConductingEquipment h = refl
is_equipment PowerTransformer h = absurd (cc)
is_equipment TransformerWinding h = absurd (cc)
is_equipment Terminal h = absurd (cc)
is_equipment Skipped h = absurd (cc)

-- ---- what pass 1 says

or_none : (o r : Option SsdRefusal) → option_or o r ≡ None → (o ≡ None) × (r ≡ None)
or_none None r h = (refl, h)
or_none (Some e) r h = absurd (cc)

none_on : (f : FaultAfter) (all : List Element) (i : ℕ) → first_fault f [] all ≡ None → i ≤ length all →
    first_fault f (take i all) (drop i all) ≡ None
none_on f all zero h l = start all h
  where
    start : (xs : List Element) → first_fault f [] xs ≡ None → first_fault f (take zero xs) (drop zero xs) ≡ None
    start [] g = g
    start (x ∷ xs) g = g
none_on f all (suc i) h l =
    let inside : i < length all = omega arith in
    let both = or_none (f (take i all) (element_at all i)) (first_fault f (take (i + 1) all) (drop (i + 1) all))
    (sym (first_at f all i inside) ∙ none_on f all i h (omega arith)) in
    rw (← add-one) both.1

pub none_at : (f : FaultAfter) (all : List Element) (i : ℕ) → first_fault f [] all ≡ None → i < length all →
    f (take i all) (element_at all i) ≡ None
none_at f all i h l = (or_none (f (take i all) (element_at all i)) (first_fault f (take (i + 1) all) (drop (i + 1) all))
    (sym (first_at f all i l) ∙ none_on f all i h (omega arith))).0

name_case : (n t : Bool) (at : ℕ) → cond n (Some (NoName at)) (cond t (Some (Twice at)) None) ≡ None → t ≡ false
name_case true t at h = absurd (cc)
name_case false true at h = absurd (cc)
name_case false false at h = refl

pub or_false : (a b : Bool) → (a || b) ≡ false → (a ≡ false) × (b ≡ false)
or_false true b h = absurd (cc)
or_false false b h = (refl, h)

not_taken : (before : List Element) (x : Element) → name_fault before x ≡ None → list_any (same_path x) before ≡ false
unfolding name_fault
not_taken before x h = (or_false (list_any (same_path x) before) (list_any (same_key x) before)
    (name_case (is_nameless x) (is_taken before x) x.entry.at h)).0

pub path_new : (all : List Element) (i : ℕ) → first_fault name_fault [] all ≡ None → i < length all →
    list_any (same_path (element_at all i)) (take i all) ≡ false
path_new all i h l = not_taken (take i all) (element_at all i) (none_at name_fault all i h l)

-- ---- new paths

same_text : (p : List ℕ) → bytes_eq p p ≡ true
same_text p = (bytes_eq-Decides p p).1 refl

not_contained : (p : List ℕ) (ps : List (List ℕ)) (k : ℕ) → list_any (bytes_eq p) ps ≡ false → k < length ps →
    get_or ps k p ≡ p → ⊥
not_contained p [] k h l e = omega arith
not_contained p (q ∷ ps) zero h l e =
    let both = or_false (bytes_eq p q) (list_any (bytes_eq p) ps) h in
    let bad : bytes_eq p p ≡ false = ap (bytes_eq p) (sym e) ∙ both.0 in
    let wrong : true ≡ false = sym (same_text p) ∙ bad in cc
not_contained p (q ∷ ps) (suc k) h l e = let both = or_false (bytes_eq p q) (list_any (bytes_eq p) ps) h in
    not_contained p ps k both.1 (omega arith) e

pub lacks : (p : List ℕ) (ps : List (List ℕ)) → list_any (bytes_eq p) ps ≡ false → Contains ps p → ⊥
lacks p ps h c = not_contained p ps c.0 h c.1 c.2

apart_step : (b : Bool) (p : List ℕ) (y : Element) (ys : List Element) → (b ≡ true → bytes_eq p y.path ≡ false) →
    list_any (bytes_eq p) (map (λ (x : Element). x.path) ys) ≡ false →
    list_any (bytes_eq p) (map (λ (x : Element). x.path) (cond b (y ∷ ys) ys)) ≡ false
apart_step true p y ys h g = ap (λ b. b || list_any (bytes_eq p) (map (λ (x : Element). x.path) ys)) (h refl) ∙ g
apart_step false p y ys h g = g

-- Elements that are counted as one kind have other paths than those before them.
pub same_kind : (kind : Role) (x y : Element) → same_role kind kind ≡ true → counted_path x ≡ Some (kind, x.path) →
    counted_path y ≡ Some (kind, y.path) → same_path x y ≡ bytes_eq x.path y.path
same_kind kind x y k h g = rw (h, g, k) refl

pub apart_paths : (kind : Role) (p : Element → Bool) (x : Element) (before : List Element) →
    same_role kind kind ≡ true → ((y : Element) → p y ≡ true → counted_path y ≡ Some (kind, y.path)) →
    counted_path x ≡ Some (kind, x.path) → list_any (same_path x) before ≡ false
    → list_any (bytes_eq x.path) (map (λ (x : Element). x.path) (filter p before)) ≡ false
apart_paths kind p x [] k c e h = refl
apart_paths kind p x (y ∷ ys) k c e h =
    let both = or_false (same_path x y) (list_any (same_path x) ys) h in
    apart_step (p y) x.path y (filter p ys) (λ t. sym (same_kind kind x y k e (c y t)) ∙ both.0)
    (apart_paths kind p x ys k c e both.1)

part_kind : (r w : Role) → (same_role r Bay || (same_role r PowerTransformer && not (same_role w Bay))) ≡ true →
    counted_as r ≡ Some Bay
part_kind Root w h = absurd (cc)
part_kind Substation w h = absurd (cc)
part_kind VoltageLevel w h = absurd (cc)
part_kind Bay w h = refl
part_kind ConnectivityNode w h = absurd (cc)
part_kind ConductingEquipment w h = absurd (cc)
part_kind PowerTransformer w h = refl
part_kind TransformerWinding w h = absurd (cc)
part_kind Terminal w h = absurd (cc)
part_kind Skipped w h = absurd (cc)

pub part_path_of : (x : Element) → is_part x ≡ true → counted_path x ≡ Some (Bay, x.path)
part_path_of x h = ap (option_map (λ (kind : Role). (kind, x.path))) (part_kind x.role x.within h)

is_node_role : (r : Role) → same_role r ConnectivityNode ≡ true → counted_as r ≡ Some ConnectivityNode
is_node_role Root h = absurd (cc)
is_node_role Substation h = absurd (cc)
is_node_role VoltageLevel h = absurd (cc)
is_node_role Bay h = absurd (cc)
is_node_role ConnectivityNode h = refl
is_node_role ConductingEquipment h = absurd (cc)
is_node_role PowerTransformer h = absurd (cc)
is_node_role TransformerWinding h = absurd (cc)
is_node_role Terminal h = absurd (cc)
is_node_role Skipped h = absurd (cc)

pub node_path_of : (x : Element) → is_node x ≡ true → counted_path x ≡ Some (ConnectivityNode, x.path)
node_path_of x h = ap (option_map (λ (kind : Role). (kind, x.path))) (is_node_role x.role h)

pub equipment_path_of : (x : Element) → x.role ≡ ConductingEquipment →
    counted_path x ≡ Some (ConductingEquipment, x.path)
equipment_path_of x h = ap (λ (r : Role). option_map (λ (kind : Role). (kind, x.path)) (counted_as r)) h
