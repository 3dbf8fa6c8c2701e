-- What the items of a drawing give.
use Rattle.std.proofs.Common.{◌≡◌, ℕ, ◌<◌, ◌+◌, List, [], ◌∷◌, ◌++◌, length, take, Some, Bool, true, false, ◌==◌, cond}
use Rattle.std.proofs.Common.{refl, arith, zero, suc, subst}
use Rattle.std.specs.List.{filter_map, flat_map, slice_get, range_with_len}
use Rattle.station_graph.specs.declared.items.Switch.{Switch}
use Rattle.ssd_text.specs.Nesting.{Entry}
use Rattle.ssd_read.specs.declared.types.Use.{Use}
use Rattle.ssd_read.specs.declared.types.Use.TheVariants as uses
use Rattle.ssd_read.specs.declared.role.Role.TheVariants.{ConductingEquipment, PowerTransformer}
use Rattle.ssd_read.specs.Elements.{Element, element_at, same_role, element_name}
use Rattle.ssd_read.specs.Ends.{ends_of, nodes_at, use_of}
use Rattle.ssd_read.specs.Steps.{Step, a_part, a_node, a_switch, a_link, a_tap, part_of, tap_step}
use Rattle.ssd_read.specs.Steps.{tap_steps, link_step, links_after, links_along, lone_tap, is_tapless, is_bond}
use Rattle.ssd_read.specs.Steps.{use_steps, transformer_steps, winding_ends_of, item_steps_at}
use Rattle.ssd_read.specs.Lists.{part_path, switch_in}
use Rattle.ssd_read.proofs.AddedPaths.{added_node}

-- ---- what holds of the steps of a list holds of them all

pub flat_all : {X : Type 0} (P : List Step → Type 0) → P [] → ((ss ts : List Step) → P ss → P ts → P (ss ++ ts)) →
    (f : X → List Step) → ((x : X) → P (f x)) → (xs : List X) → P (flat_map f xs)
flat_all P none both f each [] = none
flat_all P none both f each (x ∷ xs) = both (f x) (flat_map f xs) (each x) (flat_all P none both f each xs)

flat_first : (P : List Step → Type 0) → P [] → ((ss ts : List Step) → P ss → P ts → P (ss ++ ts)) →
    (f : ℕ → List Step) → (a n i : ℕ) → ((k : ℕ) → k < a + i → P (f k)) → P (flat_map f (take i (range_with_len a n)))
flat_first P none both f a zero zero each = none
flat_first P none both f a zero (suc i) each = none
flat_first P none both f a (suc n) zero each = none
flat_first P none both f a (suc n) (suc i) each =
    both (f a) (flat_map f (take i (range_with_len (a + 1) n))) (each a (omega arith))
    (flat_first P none both f (a + 1) n i (λ k h. each k (omega arith)))

-- ---- steps that are no parts and no nodes

abbrev pub IsItems : List Step → Type 0
IsItems [] = Unit {0}
IsItems (a_part path ∷ ss) = ⊥
IsItems (a_node path ∷ ss) = ⊥
IsItems (a_switch name x ∷ ss) = IsItems ss
IsItems (a_link x ∷ ss) = IsItems ss
IsItems (a_tap x ∷ ss) = IsItems ss

items_both : (ss ts : List Step) → IsItems ss → IsItems ts → IsItems (ss ++ ts)
items_both [] ts h g = g
items_both (a_part path ∷ ss) ts h g = h
items_both (a_node path ∷ ss) ts h g = h
items_both (a_switch name x ∷ ss) ts h g = items_both ss ts h g
items_both (a_link x ∷ ss) ts h g = items_both ss ts h g
items_both (a_tap x ∷ ss) ts h g = items_both ss ts h g

pub no_parts : (ss : List Step) → IsItems ss → filter_map part_path ss ≡ []
no_parts [] h = refl
no_parts (a_part path ∷ ss) h = absurd h
no_parts (a_node path ∷ ss) h = absurd h
no_parts (a_switch name x ∷ ss) h = no_parts ss h
no_parts (a_link x ∷ ss) h = no_parts ss h
no_parts (a_tap x ∷ ss) h = no_parts ss h

pub no_nodes : (ss : List Step) → IsItems ss → filter_map added_node ss ≡ []
no_nodes [] h = refl
no_nodes (a_part path ∷ ss) h = absurd h
no_nodes (a_node path ∷ ss) h = absurd h
no_nodes (a_switch name x ∷ ss) h = no_nodes ss h
no_nodes (a_link x ∷ ss) h = no_nodes ss h
no_nodes (a_tap x ∷ ss) h = no_nodes ss h

-- ---- steps that are links and taps

abbrev pub IsPlain : List Step → Type 0
IsPlain [] = Unit {0}
IsPlain (a_part path ∷ ss) = ⊥
IsPlain (a_node path ∷ ss) = ⊥
IsPlain (a_switch name x ∷ ss) = ⊥
IsPlain (a_link x ∷ ss) = IsPlain ss
IsPlain (a_tap x ∷ ss) = IsPlain ss

plain_both : (ss ts : List Step) → IsPlain ss → IsPlain ts → IsPlain (ss ++ ts)
plain_both [] ts h g = g
plain_both (a_part path ∷ ss) ts h g = h
plain_both (a_node path ∷ ss) ts h g = h
plain_both (a_switch name x ∷ ss) ts h g = h
plain_both (a_link x ∷ ss) ts h g = plain_both ss ts h g
plain_both (a_tap x ∷ ss) ts h g = plain_both ss ts h g

plain_items : (ss : List Step) → IsPlain ss → IsItems ss
plain_items [] h = tt
plain_items (a_part path ∷ ss) h = h
plain_items (a_node path ∷ ss) h = h
plain_items (a_switch name x ∷ ss) h = absurd h
plain_items (a_link x ∷ ss) h = plain_items ss h
plain_items (a_tap x ∷ ss) h = plain_items ss h

pub plain_switches : (ss : List Step) → IsPlain ss → filter_map switch_in ss ≡ []
plain_switches [] h = refl
plain_switches (a_part path ∷ ss) h = absurd h
plain_switches (a_node path ∷ ss) h = absurd h
plain_switches (a_switch name x ∷ ss) h = absurd h
plain_switches (a_link x ∷ ss) h = plain_switches ss h
plain_switches (a_tap x ∷ ss) h = plain_switches ss h

link_plain : (bond : Bool) (part a b : ℕ) (t : Bool) →
    IsPlain (cond t [] (a_link (record {
      first = record { 0 = a };
      second = record { 0 = b };
      bond = bond;
      part = record { 0 = part };
    }) ∷ []))
link_plain bond part a b true = tt
link_plain bond part a b false = tt

links_after_plain : (bond : Bool) (part a : ℕ) (ns : List ℕ) → IsPlain (links_after bond part a ns)
links_after_plain bond part a [] = tt
links_after_plain bond part a (b ∷ ns) = plain_both (link_step bond part a b) (links_after bond part b ns)
    (link_plain bond part a b (a == b)) (links_after_plain bond part b ns)

links_plain : (bond : Bool) (part : ℕ) (ns : List ℕ) → IsPlain (links_along bond part ns)
links_plain bond part [] = tt
links_plain bond part (a ∷ ns) = links_after_plain bond part a ns

taps_plain : (part : ℕ) (ns : List ℕ) → IsPlain (tap_steps part ns)
taps_plain part [] = tt
taps_plain part (n ∷ ns) = taps_plain part ns

lone_case : (part a : ℕ) (b : Bool) → IsPlain (cond b [] (tap_step part a ∷ []))
lone_case part a true = tt
lone_case part a false = tt

lone_plain : (e : Entry) (part : ℕ) (ns : List ℕ) → IsPlain (lone_tap e part ns)
lone_plain e part [] = tt
lone_plain e part (a ∷ []) = lone_case part a (is_tapless e)
lone_plain e part (a ∷ b ∷ ns) = tt

pub other_plain : (e : Entry) (part : ℕ) (ns : List ℕ) → IsPlain (links_along (is_bond e) part ns ++ lone_tap e part ns)
other_plain e part ns = plain_both (links_along (is_bond e) part ns) (lone_tap e part ns)
    (links_plain (is_bond e) part ns) (lone_plain e part ns)

transformer_plain : (part : ℕ) (ns : List ℕ) → IsPlain (transformer_steps part ns)
transformer_plain part ns = plain_both (links_along false part ns) (tap_steps part ns) (links_plain false part ns)
    (taps_plain part ns)

-- ---- what each item gives

item_case : (P : List Step → Type 0) (b c : Bool) (ss ts : List Step) → (b ≡ true → P ss) → P ts → P [] →
    P (cond b ss (cond c ts []))
item_case P true c ss ts u t n = u refl
item_case P false true ss ts u t n = t
item_case P false false ss ts u t n = n

-- What holds of the steps of each use, and of those of links and taps, holds of an item's.
pub each_item : (P : List Step → Type 0) (all : List Element) (i : ℕ) → P [] → ((ss : List Step) → IsPlain ss → P ss)
    → (same_role (element_at all i).role ConductingEquipment ≡ true → (u : Use) (ns : List ℕ) →
    P (use_steps u (element_at all i).entry (part_of all i (element_at all i)) ns)) → P (item_steps_at all i)
each_item P all i none plain by_use =
    let x : Element = element_at all i in
    item_case P (same_role x.role ConductingEquipment) (same_role x.role PowerTransformer)
    (use_steps (use_of x.entry) x.entry (part_of all i x) (nodes_at (ends_of all i)))
    (transformer_steps (part_of all i x) (nodes_at (winding_ends_of all i)))
    (λ t. by_use t (use_of x.entry) (nodes_at (ends_of all i)))
    (plain (transformer_steps (part_of all i x) (nodes_at (winding_ends_of all i)))
    (transformer_plain (part_of all i x) (nodes_at (winding_ends_of all i)))) none

use_items : (u : Use) (e : Entry) (part : ℕ) (ns : List ℕ) → IsItems (use_steps u e part ns)
use_items uses.Breaker e part [] = tt
use_items uses.Breaker e part (a ∷ []) = tt
use_items uses.Breaker e part (a ∷ b ∷ ns) = tt
use_items uses.Disconnector e part [] = tt
use_items uses.Disconnector e part (a ∷ []) = tt
use_items uses.Disconnector e part (a ∷ b ∷ ns) = tt
use_items uses.Infeed e part [] = tt
use_items uses.Infeed e part (a ∷ ns) = tt
use_items uses.Other e part ns = plain_items (links_along (is_bond e) part ns ++ lone_tap e part ns)
    (other_plain e part ns)

item_items : (all : List Element) (i : ℕ) → IsItems (item_steps_at all i)
item_items all i = each_item IsItems all i tt plain_items (λ t u ns. use_items u (element_at all i).entry
    (part_of all i (element_at all i)) ns)

pub all_items : (all : List Element) (is : List ℕ) → IsItems (flat_map (item_steps_at all) is)
all_items all is = flat_all IsItems tt items_both (item_steps_at all) (item_items all) is

-- ---- switches

-- What holds of the name and the switch of each step that adds one.
abbrev pub AllSwitches : (List ℕ → Switch → Type 0) → List Step → Type 0
AllSwitches Q [] = Unit {0}
AllSwitches Q (a_part path ∷ ss) = AllSwitches Q ss
AllSwitches Q (a_node path ∷ ss) = AllSwitches Q ss
AllSwitches Q (a_switch name x ∷ ss) = Q name x × AllSwitches Q ss
AllSwitches Q (a_link x ∷ ss) = AllSwitches Q ss
AllSwitches Q (a_tap x ∷ ss) = AllSwitches Q ss

switches_both : (Q : List ℕ → Switch → Type 0) (ss ts : List Step) → AllSwitches Q ss → AllSwitches Q ts →
    AllSwitches Q (ss ++ ts)
switches_both Q [] ts h g = g
switches_both Q (a_part path ∷ ss) ts h g = switches_both Q ss ts h g
switches_both Q (a_node path ∷ ss) ts h g = switches_both Q ss ts h g
switches_both Q (a_switch name x ∷ ss) ts h g = (h.0, switches_both Q ss ts h.1 g)
switches_both Q (a_link x ∷ ss) ts h g = switches_both Q ss ts h g
switches_both Q (a_tap x ∷ ss) ts h g = switches_both Q ss ts h g

plain_all : (Q : List ℕ → Switch → Type 0) (ss : List Step) → IsPlain ss → AllSwitches Q ss
plain_all Q [] h = tt
plain_all Q (a_part path ∷ ss) h = absurd h
plain_all Q (a_node path ∷ ss) h = absurd h
plain_all Q (a_switch name x ∷ ss) h = absurd h
plain_all Q (a_link x ∷ ss) h = plain_all Q ss h
plain_all Q (a_tap x ∷ ss) h = plain_all Q ss h

use_all : (Q : List ℕ → Switch → Type 0) (u : Use) (e : Entry) (part : ℕ) (ns : List ℕ) →
    ((x : Switch) → x.bay.0 ≡ part → Q (element_name e) x) → AllSwitches Q (use_steps u e part ns)
use_all Q uses.Breaker e part [] h = tt
use_all Q uses.Breaker e part (a ∷ []) h = tt
use_all Q uses.Breaker e part (a ∷ b ∷ ns) h = (h _ refl, tt)
use_all Q uses.Disconnector e part [] h = tt
use_all Q uses.Disconnector e part (a ∷ []) h = (h _ refl, tt)
use_all Q uses.Disconnector e part (a ∷ b ∷ ns) h = (h _ refl, tt)
use_all Q uses.Infeed e part [] h = tt
use_all Q uses.Infeed e part (a ∷ ns) h = (h _ refl, tt)
use_all Q uses.Other e part ns h = plain_all Q (links_along (is_bond e) part ns ++ lone_tap e part ns)
    (other_plain e part ns)

pub item_all : (Q : List ℕ → Switch → Type 0) (all : List Element) (i : ℕ) →
    (same_role (element_at all i).role ConductingEquipment ≡ true → (x : Switch) →
    x.bay.0 ≡ part_of all i (element_at all i) → Q (element_name (element_at all i).entry) x) →
    AllSwitches Q (item_steps_at all i)
item_all Q all i h = each_item (AllSwitches Q) all i tt (plain_all Q) (λ t u ns. use_all Q u (element_at all i).entry
    (part_of all i (element_at all i)) ns (h t))

pub all_before : (Q : List ℕ → Switch → Type 0) (all : List Element) (i : ℕ) →
    ((k : ℕ) → k < i → same_role (element_at all k).role ConductingEquipment ≡ true → (x : Switch) →
    x.bay.0 ≡ part_of all k (element_at all k) → Q (element_name (element_at all k).entry) x)
    → AllSwitches Q (flat_map (item_steps_at all) (take i (range_with_len 0 (length all))))
all_before Q all i h = flat_first (AllSwitches Q) tt (switches_both Q) (item_steps_at all) 0 (length all) i
    (λ k l. item_all Q all k (h k (omega arith)))

pub switch_at : (Q : List ℕ → Switch → Type 0) (R : Switch → Type 0) → ((name : List ℕ) (x : Switch) → Q name x → R x) →
    (ss : List Step) (k : ℕ) (x : Switch) → AllSwitches Q ss → slice_get (filter_map switch_in ss) k ≡ Some x → R x
switch_at Q R w [] k x h g = absurd (cc)
switch_at Q R w (a_part path ∷ ss) k x h g = switch_at Q R w ss k x h g
switch_at Q R w (a_node path ∷ ss) k x h g = switch_at Q R w ss k x h g
switch_at Q R w (a_switch name y ∷ ss) zero x h g = let same : y ≡ x = cc in subst R same (w name y h.0)
switch_at Q R w (a_switch name y ∷ ss) (suc k) x h g = switch_at Q R w ss k x h.1 g
switch_at Q R w (a_link y ∷ ss) k x h g = switch_at Q R w ss k x h g
switch_at Q R w (a_tap y ∷ ss) k x h g = switch_at Q R w ss k x h g
