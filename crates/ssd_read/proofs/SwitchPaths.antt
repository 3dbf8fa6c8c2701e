-- The paths of the switches that a builder has, and that the path of equipment is new.
use Rattle.std.proofs.Common.{◌≡◌, ℕ, ◌<◌, List, [], ◌∷◌, ◌++◌, length, take, map, get_or, None, Bool, true, false}
use Rattle.std.proofs.Common.{◌||◌, cond, Ok, Err, refl, arith, zero, suc, ap, ◌∙◌, sym, subst}
use Rattle.std.specs.List.{filter, filter_map, flat_map, range_with_len, list_any, Contains}
use Rattle.std.specs.Option.{option_map_or}
use Rattle.std.specs.Str.{bytes_eq}
use Rattle.std.proofs.lemmas.List.{get_or-take, length-take-le}
use Rattle.station_graph.specs.Diagram.{Diagram, empty}
use Rattle.station_graph.specs.Building.{path_in_part}
use Rattle.ssd_text.specs.Nesting.{Entry, IsInOrder}
use Rattle.ssd_read.specs.declared.role.Role.TheVariants.{Bay, ConductingEquipment}
use Rattle.ssd_read.specs.Elements.{Element, element_at, elements_of, nowhere, element_name}
use Rattle.ssd_read.specs.Names.{first_fault, name_fault, is_node, same_path}
use Rattle.ssd_read.specs.Steps.{Step, a_part, a_node, a_switch, a_link, a_tap, built, added, limit_at, limit_fault}
use Rattle.ssd_read.specs.Steps.{is_part, naming_step, part_number, part_of, item_steps_at, steps_before}
use Rattle.ssd_read.proofs.AddedPaths.{switch_path_in}
use Rattle.ssd_read.proofs.Stepped.{then_case}
use Rattle.ssd_read.proofs.Laid.{part_paths_built, paths_built, parts_named}
use Rattle.ssd_read.proofs.Given.{AllSwitches, all_before, all_items, no_parts, flat_all}
use Rattle.ssd_read.proofs.Numbered.{InBay, in_bay}
use Rattle.ssd_read.proofs.Drawn.{drawn_len}
use Rattle.ssd_read.proofs.NewPaths.{laid_parts, is_equipment, or_false, path_new, lacks, same_kind, equipment_path_of}

-- ---- new paths of switches

built_split : (d e : Diagram) (ss ts : List Step) → built d (ss ++ ts) ≡ Ok e → (mid : Diagram)
    × (built d ss ≡ Ok mid) × (built mid ts ≡ Ok e)
unfolding built
built_split d e [] ts h = (d, refl, h)
built_split d e (s ∷ ss) ts h =
    let both = then_case ts (limit_at d s) (built (added d s) (ss ++ ts)) e h in
    let rest = built_split (added d s) e ss ts both.1 in
    let whole = ap (λ o. option_map_or (λ l. Err (limit_fault l)) o (built (added d s) ss)) both.0 in
    (rest.0, whole ∙ rest.1, rest.2)

abbrev IsNaming : List Step → Type 0
IsNaming [] = Unit {0}
IsNaming (a_part path ∷ ss) = IsNaming ss
IsNaming (a_node path ∷ ss) = IsNaming ss
IsNaming (a_switch name x ∷ ss) = ⊥
IsNaming (a_link x ∷ ss) = ⊥
IsNaming (a_tap x ∷ ss) = ⊥

naming_both : (ss ts : List Step) → IsNaming ss → IsNaming ts → IsNaming (ss ++ ts)
naming_both [] ts h g = g
naming_both (a_part path ∷ ss) ts h g = naming_both ss ts h g
naming_both (a_node path ∷ ss) ts h g = naming_both ss ts h g
naming_both (a_switch name x ∷ ss) ts h g = h
naming_both (a_link x ∷ ss) ts h g = h
naming_both (a_tap x ∷ ss) ts h g = h

naming_case : (b c : Bool) (x : Element) → IsNaming (cond b (a_part x.path ∷ []) (cond c (a_node x.path ∷ []) []))
naming_case true c x = tt
naming_case false true x = tt
naming_case false false x = tt

all_naming : (all : List Element) → IsNaming (flat_map naming_step all)
all_naming all = flat_all IsNaming tt naming_both naming_step (λ x. naming_case (is_part x) (is_node x) x) all

named_paths : (d e : Diagram) (ss : List Step) → IsNaming ss → built d ss ≡ Ok e → e.switch_paths ≡ d.switch_paths
unfolding built
named_paths d e [] n h = let same : d ≡ e = cc in sym (ap (λ (x : Diagram). x.switch_paths) same)
named_paths d e (a_part path ∷ ss) n h = let both = then_case ss (limit_at d (a_part path))
    (built (added d (a_part path)) ss) e h in named_paths (added d (a_part path)) e ss n both.1
named_paths d e (a_node path ∷ ss) n h = let both = then_case ss (limit_at d (a_node path))
    (built (added d (a_node path)) ss) e h in named_paths (added d (a_node path)) e ss n both.1
named_paths d e (a_switch name x ∷ ss) n h = absurd n
named_paths d e (a_link x ∷ ss) n h = absurd n
named_paths d e (a_tap x ∷ ss) n h = absurd n

-- The switches' paths are those of their parts and names.
pub laid_paths : (all : List Element) (is : List ℕ) (d : Diagram) →
    built empty (flat_map naming_step all ++ flat_map (item_steps_at all) is) ≡ Ok d
    → d.switch_paths ≡ filter_map (switch_path_in (map (λ (x : Element). x.path) (filter is_part all)))
    (flat_map (item_steps_at all) is)
laid_paths all is d h =
    let items : List Step = flat_map (item_steps_at all) is in
    let cut = built_split empty d (flat_map naming_step all) items h in
    let none : cut.0.switch_paths ≡ [] = named_paths empty cut.0 (flat_map naming_step all) (all_naming all) cut.1 in
    let parts : cut.0.part_paths ≡ map (λ (x : Element). x.path) (filter is_part all) =
    part_paths_built empty cut.0 (flat_map naming_step all) cut.1 ∙ parts_named all in
    paths_built cut.0 d items (no_parts items (all_items all is)) cut.2
    ∙ (ap (λ l. l ++ filter_map (switch_path_in cut.0.part_paths) items) none
    ∙ ap (λ (ps : List (List ℕ)). filter_map (switch_path_in ps) items) parts)

number_step : (b : Bool) (x : Element) (xs ys : List Element) (p : List ℕ) → get_or (map (λ (x : Element). x.path) ys)
    (length xs) [] ≡ p → get_or (map (λ (x : Element). x.path) (cond b (x ∷ ys) ys))
    (length (cond b (x ∷ xs) xs)) [] ≡ p
number_step true x xs ys p h = h
number_step false x xs ys p h = h

first_path : (b : Bool) (x : Element) (ys : List Element) → b ≡ true →
    get_or (map (λ (x : Element). x.path) (cond b (x ∷ ys) ys)) 0 [] ≡ x.path
first_path true x ys h = refl
first_path false x ys h = absurd (cc)

-- The path at a part's number is that part's.
path_at : (all : List Element) (p : ℕ) → p < length all → is_part (element_at all p) ≡ true →
    get_or (map (λ (x : Element). x.path) (filter is_part all)) (part_number all p) [] ≡ (element_at all p).path
path_at [] p h t = absurd (omega arith)
path_at (x ∷ xs) zero h t = first_path (is_part x) x (filter is_part xs) t
path_at (x ∷ xs) (suc p) h t = number_step (is_part x) x (filter is_part (take p xs)) (filter is_part xs)
    (element_at xs p).path (path_at xs p (omega arith) t)

bay_part : (x : Element) → x.role ≡ Bay → is_part x ≡ true
bay_part x h = rw h refl

-- The path that equipment has by its part and its name is its own.
pub own_path : (tree : List Entry) (i : ℕ) → IsInOrder tree → i < length tree → (element_at (elements_of tree) i).role
    ≡ ConductingEquipment
    → get_or (map (λ (x : Element). x.path) (filter is_part (elements_of tree))) (part_of (elements_of tree) i
    (element_at (elements_of tree) i)) [] ++ 47 ∷ element_name (element_at (elements_of tree) i).entry
    ≡ (element_at (elements_of tree) i).path
own_path tree i o h r =
    let all : List Element = elements_of tree in
    let b = in_bay tree i o h r in
    let x : InBay all i b.0 = b.1 in
    let less : b.0 < i = x.before in
    let inside : b.0 < length all = omega (arith, drawn_len tree) in
    let outer : get_or (map (λ (x : Element). x.path) (filter is_part all)) (part_number all b.0) []
    ≡ (element_at all b.0).path = path_at all b.0 inside (bay_part (element_at all b.0) x.bay) in
    ap (λ (n : ℕ). get_or (map (λ (x : Element). x.path) (filter is_part all)) n [] ++ 47 ∷ element_name
    (element_at all i).entry) x.part ∙ (ap (λ (l : List ℕ). l ++ 47 ∷ element_name (element_at all i).entry) outer
    ∙ sym x.path)

any_at : (p : Element → Bool) (xs : List Element) (k : ℕ) → list_any p xs ≡ false → k < length xs →
    p (element_at xs k) ≡ false
any_at p [] k h l = absurd (omega arith)
any_at p (x ∷ xs) zero h l = (or_false (p x) (list_any p xs) h).0
any_at p (x ∷ xs) (suc k) h l = any_at p xs k (or_false (p x) (list_any p xs) h).1 (omega arith)

other_path : (all : List Element) (i k : ℕ) → first_fault name_fault [] all ≡ None → i < length all → k < i →
    (element_at all i).role ≡ ConductingEquipment → (element_at all k).role ≡ ConductingEquipment →
    bytes_eq (element_at all i).path (element_at all k).path ≡ false
other_path all i k n h l ri rk =
    let count : length (take i all) ≡ i = length-take-le i all (omega arith) in
    let inside : k < length (take i all) = omega arith in
    let x : Element = element_at all i in
    let y : Element = element_at all k in
    let apart : same_path x y ≡ false = subst (λ (y : Element). same_path x y ≡ false) (get_or-take i all k nowhere l)
    (any_at (same_path x) (take i all) k (path_new all i n h) inside) in
    sym (same_kind ConductingEquipment x y refl (equipment_path_of x ri) (equipment_path_of y rk)) ∙ apart

-- Switches whose paths are others.
others_only : (parts : List (List ℕ)) (p : List ℕ) (ss : List Step) →
    AllSwitches (λ name x. bytes_eq p (get_or parts x.bay.0 [] ++ 47 ∷ name) ≡ false) ss →
    list_any (bytes_eq p) (filter_map (switch_path_in parts) ss) ≡ false
others_only parts p [] h = refl
others_only parts p (a_part path ∷ ss) h = others_only parts p ss h
others_only parts p (a_node path ∷ ss) h = others_only parts p ss h
others_only parts p (a_switch name x ∷ ss) h =
    ap (λ b. b || list_any (bytes_eq p) (filter_map (switch_path_in parts) ss)) h.0 ∙ others_only parts p ss h.1
others_only parts p (a_link x ∷ ss) h = others_only parts p ss h
others_only parts p (a_tap x ∷ ss) h = others_only parts p ss h

pub new_tree : (tree : List Entry) (i : ℕ) (d : Diagram) → IsInOrder tree → i < length tree →
    first_fault name_fault [] (elements_of tree) ≡ None → (element_at (elements_of tree) i).role ≡ ConductingEquipment →
    built empty (steps_before (elements_of tree) i) ≡ Ok d
    → Contains d.switch_paths (path_in_part d (part_of (elements_of tree) i (element_at (elements_of tree) i))
    (element_name (element_at (elements_of tree) i).entry)) → ⊥
new_tree tree i d o h n r b =
    let all : List Element = elements_of tree in
    let x : Element = element_at all i in
    let is : List ℕ = take i (range_with_len 0 (length all)) in
    let items : List Step = flat_map (item_steps_at all) is in
    let parts : List (List ℕ) = map (λ (x : Element). x.path) (filter is_part all) in
    let own : path_in_part d (part_of all i x) (element_name x.entry) ≡ x.path =
    ap (λ (ps : List (List ℕ)). get_or ps (part_of all i x) [] ++ 47 ∷ element_name x.entry) (laid_parts all is d b)
    ∙ own_path tree i o h r in
    let inside : i < length all = omega (arith, drawn_len tree) in
    let given : AllSwitches (λ name y. bytes_eq x.path (get_or parts y.bay.0 [] ++ 47 ∷ name) ≡ false) items =
    all_before (λ name y. bytes_eq x.path (get_or parts y.bay.0 [] ++ 47 ∷ name) ≡ false) all i
    (λ k l t y e.
    let rk : (element_at all k).role ≡ ConductingEquipment = is_equipment (element_at all k).role t in
    let other : bytes_eq x.path (element_at all k).path ≡ false = other_path all i k n inside l r rk in
    ap (λ (m : ℕ). bytes_eq x.path (get_or parts m [] ++ 47 ∷ element_name (element_at all k).entry)) e
    ∙ (ap (bytes_eq x.path) (own_path tree k o (omega arith) rk) ∙ other)) in
    let none : list_any (bytes_eq x.path) d.switch_paths ≡ false = ap (list_any (bytes_eq x.path))
    (laid_paths all is d b) ∙ others_only parts x.path items given in
    λ c. lacks x.path d.switch_paths none (subst (Contains d.switch_paths) own c)
