-- What the small calls that add items need.
use Rattle.std.proofs.Common.{◌≡◌, ℕ, ◌≤◌, ◌<◌, ◌+◌, List, [], ◌∷◌, ◌++◌, length, take, map, get_or, Some, None, Bool}
use Rattle.std.proofs.Common.{true, false, ◌==◌, Ok, refl, arith, zero, suc, ap, ◌∙◌, sym, subst, length-append}
use Rattle.std.specs.List.{filter, flat_map, range_with_len, Contains, list_any}
use Rattle.std.specs.Str.{bytes_eq}
use Rattle.std.proofs.lemmas.List.FromFn.{length-range_with_len, get_or-range_with_len}
use Rattle.std.proofs.lemmas.Bool.{eqb-false}
use borrow.Author.Tests.{eqb-true}
use Rattle.ilk_base.specs.declared.words.Kind.TheVariants.{Infeed}
use Rattle.station_graph.specs.Diagram.{Diagram, empty, node_count, part_count}
use Rattle.ssd_read.specs.declared.refusal.SsdRefusal.{SsdRefusal}
use Rattle.ssd_read.specs.declared.terminal_place.TerminalPlace.{TerminalPlace}
use Rattle.ssd_read.specs.declared.role.Role.{Role}
use Rattle.ssd_read.specs.declared.role.Role.TheVariants.{Root, Substation, VoltageLevel, Bay, ConnectivityNode}
use Rattle.ssd_read.specs.declared.role.Role.TheVariants.{ConductingEquipment, PowerTransformer, TransformerWinding}
use Rattle.ssd_read.specs.declared.role.Role.TheVariants.{Terminal, Skipped}
use Rattle.ssd_read.specs.Drawn.{IsDrawn}
use Rattle.ssd_read.specs.Elements.{Element, element_at, elements_of, same_role}
use Rattle.ssd_read.specs.Names.{first_fault, name_fault, is_node, keys_of}
use Rattle.ssd_read.specs.Ends.{ends_of, nodes_at, is_terminal_of}
use Rattle.ssd_read.specs.Steps.{built, is_part, naming_step, part_number, part_of, switch_step, tap_step}
use Rattle.ssd_read.specs.Steps.{breaker_steps, disconnector_steps, infeed_steps}
use Rattle.ssd_read.specs.Steps.{item_steps_at, steps_before, steps_of, winding_ends_of, is_winding_terminal_of}
use Rattle.ssd_read.specs.Seen.{AnswersRefusal}
use Rattle.ssd_read.proofs.Stepped.{built_none, built_then, flat_next, flat_refused, flat_whole, at_refused}
use Rattle.ssd_read.proofs.Laid.{part_paths_built, node_paths_built, parts_named, nodes_named}
use Rattle.ssd_read.proofs.Numbered.{nodes_below, AllBelow, outer_part}
use Rattle.ssd_read.specs.Laws.{StandsIn}
use Rattle.ssd_read.proofs.Drawn.{stands_in, drawn_len}
use Rattle.ssd_read.proofs.Ready.{over_trees}
use Rattle.ssd_read.proofs.NewPaths.{lacks, apart_paths, path_new, part_path_of, node_path_of, paths_len, node_total}

pub few_breaker : (part : ℕ) (name ns : List ℕ) → length ns < 2 → breaker_steps part name ns ≡ []
few_breaker part name [] h = refl
few_breaker part name (a ∷ []) h = refl
few_breaker part name (a ∷ b ∷ ns) h = absurd (omega arith)

pub no_disconnector : (part : ℕ) (name ns : List ℕ) → length ns < 1 → disconnector_steps part name ns ≡ []
no_disconnector part name [] h = refl
no_disconnector part name (a ∷ ns) h = absurd (omega arith)

pub no_infeed : (part : ℕ) (name ns : List ℕ) → length ns < 1 → infeed_steps part name ns ≡ []
no_infeed part name [] h = refl
no_infeed part name (a ∷ ns) h = absurd (omega arith)

pub infeed_both : (part : ℕ) (name ns : List ℕ) → 1 ≤ length ns →
    (switch_step part name Infeed (get_or ns 0 0) None ∷ []) ++ (tap_step part (get_or ns 0 0) ∷ []) ≡ infeed_steps
    part name ns
infeed_both part name [] h = absurd (omega arith)
infeed_both part name (a ∷ ns) h = refl

-- ---- parts and nodes under way

named_parts : (xs : List Element) (d : Diagram) → built empty (flat_map naming_step xs) ≡ Ok d →
    d.part_paths ≡ map (λ (x : Element). x.path) (filter is_part xs)
named_parts xs d h = part_paths_built empty d (flat_map naming_step xs) h ∙ parts_named xs

named_nodes : (xs : List Element) (d : Diagram) → built empty (flat_map naming_step xs) ≡ Ok d →
    d.node_paths ≡ map (λ (x : Element). x.path) (filter is_node xs)
named_nodes xs d h = node_paths_built empty d (flat_map naming_step xs) h ∙ nodes_named xs

pub named_count : (all : List Element) (i : ℕ) (d : Diagram) → built empty (flat_map naming_step (take i all)) ≡ Ok d →
    part_count d ≡ part_number all i
named_count all i d h = ap length (named_parts (take i all) d h) ∙ paths_len (filter is_part (take i all))

pub new_part : (all : List Element) (i : ℕ) (d : Diagram) (path : List ℕ) → first_fault name_fault [] all ≡ None →
    i < length all → built empty (flat_map naming_step (take i all)) ≡ Ok d → true ≡ is_part (element_at all i) →
    path ≡ (element_at all i).path → Contains d.part_paths path → ⊥
new_part all i d path n h b t e =
    let x : Element = element_at all i in
    let other : list_any (bytes_eq x.path) (map (λ (x : Element). x.path) (filter is_part (take i all))) ≡ false =
    apart_paths Bay is_part x (take i all) refl part_path_of (part_path_of x (sym t)) (path_new all i n h) in
    let none : list_any (bytes_eq path) d.part_paths ≡ false = ap (λ (p : List ℕ). list_any (bytes_eq p) d.part_paths) e
    ∙ (ap (list_any (bytes_eq x.path)) (named_parts (take i all) d b) ∙ other) in
    lacks path d.part_paths none

pub new_node : (all : List Element) (i : ℕ) (d : Diagram) (path : List ℕ) → first_fault name_fault [] all ≡ None →
    i < length all → built empty (flat_map naming_step (take i all)) ≡ Ok d → is_node (element_at all i) ≡ true →
    path ≡ (element_at all i).path → Contains d.node_paths path → ⊥
new_node all i d path n h b t e =
    let x : Element = element_at all i in
    let other : list_any (bytes_eq x.path) (map (λ (x : Element). x.path) (filter is_node (take i all))) ≡ false =
    apart_paths ConnectivityNode is_node x (take i all) refl node_path_of (node_path_of x t) (path_new all i n h) in
    let none : list_any (bytes_eq path) d.node_paths ≡ false = ap (λ (p : List ℕ). list_any (bytes_eq p) d.node_paths) e
    ∙ (ap (list_any (bytes_eq x.path)) (named_nodes (take i all) d b) ∙ other) in
    lacks path d.node_paths none

-- ---- numbers of parts

abbrev pub NumbersUpTo : List Element → List ℕ → ℕ → Type 0
NumbersUpTo all ns i = (j : ℕ) → j < i → get_or ns j 0 ≡ part_number all j

pub parent_before : (all : List Element) (i p : ℕ) → IsDrawn all → i < length all →
    Some p ≡ (element_at all i).entry.parent → p < i
parent_before all i p g =
    over_trees (λ all. i < length all → Some p ≡ (element_at all i).entry.parent → p < i)
    (λ tree o h e. let s : StandsIn (elements_of tree) i p _ = stands_in tree i p o (omega (arith, drawn_len tree))
    (sym e) in s.before) all g

pub outer_number : (all : List Element) (i p n : ℕ) → false ≡ is_part (element_at all i) →
    Some p ≡ (element_at all i).entry.parent → n ≡ part_number all p → n ≡ part_of all i (element_at all i)
outer_number all i p n t e h = h ∙ sym (outer_part all i p (element_at all i) (sym t) (sym e))

-- ---- ends

pub own_below : (all : List Element) (i : ℕ) (d : Diagram) (ends : List TerminalPlace) → ends ≡ ends_of all i →
    built empty (steps_before all i) ≡ Ok d → AllBelow (node_count d) (nodes_at ends)
own_below all i d ends e b =
    let whole : AllBelow (length (keys_of all)) (nodes_at (ends_of all i)) =
    nodes_below all (filter (is_terminal_of i) all) in
    subst (λ (n : ℕ). AllBelow n (nodes_at ends)) (sym (node_total all i d b))
    (subst (λ (es : List TerminalPlace). AllBelow (length (keys_of all)) (nodes_at es)) (sym e) whole)

pub windings_below : (all : List Element) (i : ℕ) (d : Diagram) (ends : List TerminalPlace) (ns : List ℕ) →
    ns ≡ nodes_at ends → ends ≡ winding_ends_of all i → built empty (steps_before all i) ≡ Ok d →
    AllBelow (node_count d) ns
windings_below all i d ends ns q e b =
    let whole : AllBelow (length (keys_of all)) (nodes_at (winding_ends_of all i)) =
    nodes_below all (filter (is_winding_terminal_of all i) all) in
    let same : ns ≡ nodes_at (winding_ends_of all i) = q ∙ ap nodes_at e in
    subst (λ (n : ℕ). AllBelow n ns) (sym (node_total all i d b))
    (subst (λ (ms : List ℕ). AllBelow (length (keys_of all)) ms) (sym same) whole)

-- ---- elements that give nothing

no_equipment : (r : Role) → (r ≡ ConductingEquipment → ⊥) → same_role r ConductingEquipment ≡ false
no_equipment Root h = refl
no_equipment Substation h = refl
no_equipment VoltageLevel h = refl
no_equipment Bay h = refl
no_equipment ConnectivityNode h = refl
no_equipment ConductingEquipment h = absurd (h refl)
no_equipment PowerTransformer h = refl
no_equipment TransformerWinding h = refl
no_equipment Terminal h = refl
no_equipment Skipped h = refl

no_transformer : (r : Role) → (r ≡ PowerTransformer → ⊥) → same_role r PowerTransformer ≡ false
no_transformer Root h = refl
no_transformer Substation h = refl
no_transformer VoltageLevel h = refl
no_transformer Bay h = refl
no_transformer ConnectivityNode h = refl
no_transformer ConductingEquipment h = refl
no_transformer PowerTransformer h = absurd (h refl)
no_transformer TransformerWinding h = refl
no_transformer Terminal h = refl
no_transformer Skipped h = refl

pub gives_nothing : (all : List Element) (i : ℕ) → ((element_at all i).role ≡ ConductingEquipment → ⊥) →
    ((element_at all i).role ≡ PowerTransformer → ⊥) → item_steps_at all i ≡ []
gives_nothing all i h g = rw (no_equipment (element_at all i).role h, no_transformer (element_at all i).role g) refl

-- ---- the loop over all elements

take_none : {X : Type 0} (xs : List X) → take 0 xs ≡ []
take_none [] = refl
take_none (x ∷ xs) = refl

pub before_first : (all : List Element) (d : Diagram) →
    built d (flat_map (item_steps_at all) (take 0 (range_with_len 0 (length all)))) ≡ Ok d
before_first all d = ap (λ (is : List ℕ). built d (flat_map (item_steps_at all) is))
    (take_none (range_with_len 0 (length all))) ∙ built_none d

this_one : (all : List Element) (i : ℕ) → i < length all → get_or (range_with_len 0 (length all)) i 0 ≡ i
this_one all i h = get_or-range_with_len 0 (length all) i 0 h ∙ (let e : 0 + i ≡ i = omega arith in e)

inside_range : (all : List Element) (i : ℕ) → i < length all → i < length (range_with_len 0 (length all))
inside_range all i h = omega (arith, length-range_with_len 0 (length all))

pub item_next : (all : List Element) (d mid new : Diagram) (i : ℕ) → i < length all →
    built d (flat_map (item_steps_at all) (take i (range_with_len 0 (length all)))) ≡ Ok mid →
    built mid (item_steps_at all i) ≡ Ok new
    → built d (flat_map (item_steps_at all) (take (i + 1) (range_with_len 0 (length all)))) ≡ Ok new
item_next all d mid new i h b n =
    flat_next d mid new (item_steps_at all) (range_with_len 0 (length all)) i 0 (inside_range all i h) b
    (ap (λ (k : ℕ). built mid (item_steps_at all k)) (this_one all i h) ∙ n)

pub item_refused : (all : List Element) (d mid : Diagram) (i : ℕ) (e : SsdRefusal) → i < length all →
    built empty (flat_map naming_step all) ≡ Ok d →
    built d (flat_map (item_steps_at all) (take i (range_with_len 0 (length all)))) ≡ Ok mid →
    AnswersRefusal e (built mid (item_steps_at all i))
    → AnswersRefusal e (built empty (steps_of all))
item_refused all d mid i e h a b n =
    let here : AnswersRefusal e (built mid (item_steps_at all (get_or (range_with_len 0 (length all)) i 0))) =
    subst (λ (k : ℕ). AnswersRefusal e (built mid (item_steps_at all k))) (sym (this_one all i h)) n in
    let rest : AnswersRefusal e (built d (flat_map (item_steps_at all) (range_with_len 0 (length all)))) =
    flat_refused d mid (item_steps_at all) (range_with_len 0 (length all)) i 0 e (inside_range all i h) b here in
    at_refused e (built d (flat_map (item_steps_at all) (range_with_len 0 (length all)))) (built empty (steps_of all))
    (λ q. built_then empty d (flat_map naming_step all) (flat_map (item_steps_at all)
    (range_with_len 0 (length all))) a ∙ q) rest

pub items_whole : (all : List Element) (d mid : Diagram) (i : ℕ) → length all ≤ i →
    built empty (flat_map naming_step all) ≡ Ok d →
    built d (flat_map (item_steps_at all) (take i (range_with_len 0 (length all)))) ≡ Ok mid →
    built empty (steps_of all) ≡ Ok mid
items_whole all d mid i h a b =
    let past : length (range_with_len 0 (length all)) ≤ i = omega (arith, length-range_with_len 0 (length all)) in
    built_then empty d (flat_map naming_step all) (flat_map (item_steps_at all) (range_with_len 0 (length all))) a
    ∙ flat_whole d mid (item_steps_at all) (range_with_len 0 (length all)) i past b

-- ---- the loop over names

pub named_first : (all : List Element) (d : Diagram) → d ≡ empty →
    built empty (flat_map naming_step (take 0 all)) ≡ Ok d
named_first all d h = ap (λ (xs : List Element). built empty (flat_map naming_step xs)) (take_none all)
    ∙ (built_none empty ∙ ap Ok (sym h))

pub one_longer : (ns ms : List ℕ) (i n : ℕ) → length ns ≡ i → ms ≡ ns ++ n ∷ [] → length ms ≡ i + 1
one_longer ns ms i n c e = ap length e ∙ (length-append ns (n ∷ []) ∙ ap (λ k. k + 1) c)

at_end : (ns : List ℕ) (n : ℕ) → get_or (ns ++ n ∷ []) (length ns) 0 ≡ n
at_end [] n = refl
at_end (m ∷ ns) n = at_end ns n

at_front : (ns : List ℕ) (n j : ℕ) → j < length ns → get_or (ns ++ n ∷ []) j 0 ≡ get_or ns j 0
at_front [] n j h = absurd (omega arith)
at_front (m ∷ ns) n zero h = refl
at_front (m ∷ ns) n (suc j) h = at_front ns n j (omega arith)

pub numbers_more : (all : List Element) (ns ms : List ℕ) (i n : ℕ) → length ns ≡ i → ms ≡ ns ++ n ∷ [] →
    n ≡ part_number all i → NumbersUpTo all ns i → NumbersUpTo all ms (i + 1)
numbers_more all ns ms i n c e q h = λ j l. rw e (go j l (j == i) refl)
  where
    go : (j : ℕ) → j < i + 1 → (t : Bool) → (j == i) ≡ t → get_or (ns ++ n ∷ []) j 0 ≡ part_number all j
    go j l true t =
        let same : j ≡ i = eqb-true j i t in
        rw same (ap (λ (k : ℕ). get_or (ns ++ n ∷ []) k 0) (sym c) ∙ (at_end ns n ∙ q))
    go j l false t =
        let apart : j ≡ i → ⊥ = eqb-false j i t in
        let inside : j < i = omega arith in
        at_front ns n j (omega arith) ∙ h j inside
