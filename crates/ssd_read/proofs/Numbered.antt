-- Which part an element belongs to, and which nodes its ends are.
use Rattle.std.proofs.Common.{◌≡◌, ℕ, ◌≤◌, ◌<◌, List, [], ◌∷◌, ◌++◌, length, take, map, get_or, Option, Some, None}
use Rattle.std.proofs.Common.{Bool, true, false, ◌==◌, cond, refl, arith, zero, suc, ap, ◌∙◌, sym, subst}
use Rattle.std.specs.List.{filter, cons_option}
use Rattle.std.specs.Option.{option_and_then, option_map_or}
use Rattle.std.specs.Str.{bytes_eq}
use Rattle.std.proofs.lemmas.List.Quantifiers.{position-Some}
use Rattle.std.proofs.lemmas.Bool.{eqb-false}
use borrow.Author.Tests.{eqb-true}
use Rattle.ssd_text.specs.Nesting.{Entry}
use Rattle.ssd_read.specs.declared.role.Role.{Role}
use Rattle.ssd_read.specs.declared.role.Role.TheVariants.{Root, Substation, VoltageLevel, Bay, ConnectivityNode}
use Rattle.ssd_read.specs.declared.role.Role.TheVariants.{ConductingEquipment, PowerTransformer, TransformerWinding}
use Rattle.ssd_read.specs.declared.role.Role.TheVariants.{Terminal, Skipped}
use Rattle.ssd_read.specs.declared.terminal_place.TerminalPlace.TheVariants.{Earth, Node, Missing}
use Rattle.ssd_read.specs.Elements.{Element, element_at, nowhere, front_of_tree, elements_of, same_role, element_name}
use Rattle.ssd_read.specs.Elements.{path_in}
use Rattle.ssd_text.specs.Nesting.{entry_at}
use Rattle.ssd_text.specs.Nesting.{IsInOrder}
use Rattle.ssd_read.specs.Names.{keys_of}
use Rattle.ssd_read.specs.Ends.{end_of, node_at, nodes_at, node_with_key, wanted_key, is_grounded}
use Rattle.ssd_read.specs.Steps.{is_part, part_number, part_of}
use Rattle.ssd_read.specs.Laws.{StandsIn}
use Rattle.ssd_read.proofs.Drawn.{MayStandIn, stands_in, stands_alone, may_stand, bays_rise, drawn_len, drawn_entry}

-- ---- how many of the first elements pass a test

more_first : {X : Type 0} (b : Bool) (x : X) (xs ys : List X) → length xs ≤ length ys →
    length (cond b (x ∷ xs) xs) ≤ length (cond b (x ∷ ys) ys)
more_first true x xs ys h = omega arith
more_first false x xs ys h = omega arith

pub fewer : {X : Type 0} (p : X → Bool) (xs : List X) (i j : ℕ) → i ≤ j →
    length (filter p (take i xs)) ≤ length (filter p (take j xs))
fewer p [] zero zero h = omega arith
fewer p [] zero (suc j) h = omega arith
fewer p [] (suc i) zero h = omega arith
fewer p [] (suc i) (suc j) h = omega arith
fewer p (x ∷ xs) zero zero h = omega arith
fewer p (x ∷ xs) zero (suc j) h = omega arith
fewer p (x ∷ xs) (suc i) zero h = absurd (omega arith)
fewer p (x ∷ xs) (suc i) (suc j) h = more_first (p x) x (filter p (take i xs)) (filter p (take j xs))
    (fewer p xs i j (omega arith))

first_counts : {X : Type 0} (b : Bool) (x : X) (xs : List X) → b ≡ true → 0 < length (cond b (x ∷ xs) xs)
first_counts true x xs h = omega arith
first_counts false x xs h = absurd (cc)

more_below : {X : Type 0} (b : Bool) (x : X) (xs ys : List X) → length xs < length ys →
    length (cond b (x ∷ xs) xs) < length (cond b (x ∷ ys) ys)
more_below true x xs ys h = omega arith
more_below false x xs ys h = omega arith

below_all : {X : Type 0} (p : X → Bool) (xs : List X) (i : ℕ) (d : X) → i < length xs → p (get_or xs i d) ≡ true →
    length (filter p (take i xs)) < length (filter p xs)
below_all p [] i d h t = absurd (omega arith)
below_all p (x ∷ xs) zero d h t = first_counts (p x) x (filter p xs) t
below_all p (x ∷ xs) (suc i) d h t = more_below (p x) x (filter p (take i xs)) (filter p xs)
    (below_all p xs i d (omega arith) t)

-- ---- elements that stand in a bay

root_is_not : (r : Role) → r ≡ Root → r ≡ ConductingEquipment → ⊥
root_is_not r h g = let bad : Root ≡ ConductingEquipment = sym h ∙ g in cc

-- Equipment: the bay in which it stands, and what it takes from it.
pub record InBay (all : List Element) (i p : ℕ) : Type 0 where
  pub before : p < i
  pub parent : (element_at all i).entry.parent ≡ Some p
  pub bay : (element_at all p).role ≡ Bay
  pub part : part_of all i (element_at all i) ≡ part_number all p
  pub path : (element_at all i).path ≡ (element_at all p).path ++ 47 ∷ element_name (element_at all i).entry

equipment_part : (all : List Element) (i p : ℕ) (x : Element) → x.role ≡ ConductingEquipment → x.entry.parent ≡ Some p →
    part_of all i x ≡ part_number all p
equipment_part all i p x r e = rw (r, e) refl

equipment_path : (outer : List ℕ) (r : Role) (e : Entry) → r ≡ ConductingEquipment →
    path_in outer r e ≡ outer ++ 47 ∷ element_name e
equipment_path outer r e h = rw h refl

in_bay_of : (tree : List Entry) (i : ℕ) (o : Option ℕ) → IsInOrder tree → i < length tree →
    (element_at (elements_of tree) i).role ≡ ConductingEquipment → (element_at (elements_of tree) i).entry.parent ≡ o →
    (p : ℕ) × InBay (elements_of tree) i p
in_bay_of tree i None o h r e = absurd (root_is_not (element_at (elements_of tree) i).role (stands_alone tree i h e) r)
in_bay_of tree i (Some p) o h r e =
    let all : List Element = elements_of tree in
    let x : Element = element_at all i in
    let front : List ℕ = front_of_tree tree in
    let s : StandsIn all i p front = stands_in tree i p o h e in
    let may : MayStandIn (element_at all p).role x.role = subst (MayStandIn (element_at all p).role) (sym s.role)
    (may_stand (element_at all p).role front x.entry) in
    let bay : (element_at all p).role ≡ Bay = subst (MayStandIn (element_at all p).role) r may in (
      p,
      record {
        before = s.before;
        parent = e;
        bay = bay;
        part = equipment_part all i p x r e;
        path = s.path ∙ equipment_path (element_at all p).path x.role x.entry r;
      },
    )

pub in_bay : (tree : List Entry) (i : ℕ) → IsInOrder tree → i < length tree → (element_at (elements_of tree) i).role
    ≡ ConductingEquipment → (p : ℕ) × InBay (elements_of tree) i p
in_bay tree i o h r = in_bay_of tree i (element_at (elements_of tree) i).entry.parent o h r refl

pub bay_is_part : (x : Element) → x.role ≡ Bay → is_part x ≡ true
bay_is_part x h = rw h refl

pub is_bay : (r : Role) → same_role r Bay ≡ true → r ≡ Bay
is_bay Root h = absurd (cc)
is_bay Substation h = absurd (cc)
is_bay VoltageLevel h = absurd (cc)
is_bay Bay h = refl
is_bay ConnectivityNode h = absurd (cc)
is_bay ConductingEquipment h = absurd (cc)
is_bay PowerTransformer h = absurd (cc)
is_bay TransformerWinding h = absurd (cc)
is_bay Terminal h = absurd (cc)
is_bay Skipped h = absurd (cc)

-- Of two pieces of equipment the later one is of the same part or of a later one.
pub parts_rise : (tree : List Entry) (i j : ℕ) → IsInOrder tree → i ≤ j → j < length tree →
    (element_at (elements_of tree) i).role ≡ ConductingEquipment → (element_at (elements_of tree) j).role
    ≡ ConductingEquipment
    → part_of (elements_of tree) i (element_at (elements_of tree) i) ≤ part_of (elements_of tree) j
    (element_at (elements_of tree) j)
parts_rise tree i j o h l ri rj = go (i == j) refl
  where
    go : (t : Bool) → (i == j) ≡ t → part_of (elements_of tree) i (element_at (elements_of tree) i) ≤ part_of
        (elements_of tree) j (element_at (elements_of tree) j)
    go true t =
        let same : i ≡ j = eqb-true i j t in
        subst (λ k. part_of (elements_of tree) i (element_at (elements_of tree) i) ≤ part_of (elements_of tree) k
        (element_at (elements_of tree) k)) same (omega arith)
    go false t =
        let apart : i ≡ j → ⊥ = eqb-false i j t in
        let before : i < j = omega arith in
        let i_in : i < length tree = omega arith in
        let bi = in_bay tree i o i_in ri in
        let bj = in_bay tree j o l rj in
        let pi = bi.1 in
        let pj = bj.1 in
        let ei : (entry_at tree i).parent ≡ Some bi.0 = sym (ap (λ (x : Entry). x.parent) (drawn_entry tree i i_in))
        ∙ pi.parent in
        let ej : (entry_at tree j).parent ≡ Some bj.0 = sym (ap (λ (x : Entry). x.parent) (drawn_entry tree j l))
        ∙ pj.parent in
        let rise : bi.0 ≤ bj.0 = bays_rise tree i j bi.0 bj.0 o before l ei ej pi.bay pj.bay in
        let counts : part_number (elements_of tree) bi.0 ≤ part_number (elements_of tree) bj.0 =
        fewer is_part (elements_of tree) bi.0 bj.0 rise in
        subst (λ (n : ℕ). n ≤ part_of (elements_of tree) j (element_at (elements_of tree) j)) (sym pi.part)
        (subst (λ (n : ℕ). part_number (elements_of tree) bi.0 ≤ n) (sym pj.part) counts)

-- ---- the part is one

part_below : (all : List Element) (p : ℕ) → p < length all → is_part (element_at all p) ≡ true →
    part_number all p < length (filter is_part all)
part_below all p h t = below_all is_part all p nowhere h t

pub equipment_in : (tree : List Entry) (i : ℕ) → IsInOrder tree → i < length tree →
    (element_at (elements_of tree) i).role ≡ ConductingEquipment →
    part_of (elements_of tree) i (element_at (elements_of tree) i) < length (filter is_part (elements_of tree))
equipment_in tree i o h r =
    let b = in_bay tree i o h r in
    let x = b.1 in
    let less : b.0 < i = x.before in
    let inside : b.0 < length (elements_of tree) = omega (arith, drawn_len tree) in
    subst (λ (n : ℕ). n < length (filter is_part (elements_of tree))) (sym x.part)
    (part_below (elements_of tree) b.0 inside (bay_is_part (element_at (elements_of tree) b.0) x.bay))

pub own_part : (all : List Element) (i : ℕ) (x : Element) → is_part x ≡ true → part_of all i x ≡ part_number all i
own_part all i x h = rw h refl

pub outer_part : (all : List Element) (i p : ℕ) (x : Element) → is_part x ≡ false → x.entry.parent ≡ Some p →
    part_of all i x ≡ part_number all p
outer_part all i p x h e = rw (h, e) refl

pub not_own : (x : Element) (b : Bool) → x.role ≡ PowerTransformer → is_part x ≡ false →
    same_role x.within Bay ≡ b → b ≡ true
not_own x true r f e = refl
not_own x false r f e = let bad : is_part x ≡ true = rw (r, e) refl in let wrong : true ≡ false = sym bad ∙ f in
    wrong_end wrong
  where
    wrong_end : true ≡ false → false ≡ true
    wrong_end w = sym w

pub root_is_no_transformer : (r : Role) → r ≡ Root → r ≡ PowerTransformer → ⊥
root_is_no_transformer r h g = let bad : Root ≡ PowerTransformer = sym h ∙ g in cc

transformer_case : (tree : List Entry) (i : ℕ) (b : Bool) (q : Option ℕ) → IsInOrder tree → i < length tree →
    (element_at (elements_of tree) i).role ≡ PowerTransformer → is_part (element_at (elements_of tree) i) ≡ b →
    (element_at (elements_of tree) i).entry.parent ≡ q
    → part_of (elements_of tree) i (element_at (elements_of tree) i) < length (filter is_part (elements_of tree))
transformer_case tree i true q o h r t e =
    let inside : i < length (elements_of tree) = omega (arith, drawn_len tree) in
    subst (λ (n : ℕ). n < length (filter is_part (elements_of tree)))
    (sym (own_part (elements_of tree) i (element_at (elements_of tree) i) t))
    (part_below (elements_of tree) i inside t)
transformer_case tree i false None o h r t e = absurd (root_is_no_transformer (element_at (elements_of tree) i).role
    (stands_alone tree i h e) r)
transformer_case tree i false (Some p) o h r t e =
    let all : List Element = elements_of tree in
    let x : Element = element_at all i in
    let s : StandsIn all i p (front_of_tree tree) = stands_in tree i p o h e in
    let bay : x.within ≡ Bay = is_bay x.within (not_own x (same_role x.within Bay) r t refl) in
    let outer : (element_at all p).role ≡ Bay = sym s.within ∙ bay in
    let less : p < i = s.before in
    let inside : p < length all = omega (arith, drawn_len tree) in
    subst (λ (n : ℕ). n < length (filter is_part all)) (sym (outer_part all i p x t e))
    (part_below all p inside (bay_is_part (element_at all p) outer))

pub transformer_in : (tree : List Entry) (i : ℕ) → IsInOrder tree → i < length tree →
    (element_at (elements_of tree) i).role ≡ PowerTransformer →
    part_of (elements_of tree) i (element_at (elements_of tree) i) < length (filter is_part (elements_of tree))
transformer_in tree i o h r = transformer_case tree i (is_part (element_at (elements_of tree) i))
    (element_at (elements_of tree) i).entry.parent o h r refl refl

-- ---- the nodes are nodes

abbrev pub AllBelow : ℕ → List ℕ → Type 0
AllBelow c ns = (k : ℕ) → k < length ns → get_or ns k 0 < c

below_more : (c : ℕ) (o : Option ℕ) (ns : List ℕ) → ((n : ℕ) → o ≡ Some n → n < c) → AllBelow c ns →
    AllBelow c (cons_option o ns)
below_more c None ns h b = b
below_more c (Some n) ns h b = go
  where
    go : (k : ℕ) → k < length (n ∷ ns) → get_or (n ∷ ns) k 0 < c
    go zero l = h n refl
    go (suc k) l = b k (omega arith)

found_below : (all : List Element) (o : Option (List ℕ)) (at n : ℕ) →
    node_at (option_map_or Node (option_and_then (node_with_key all) o) (Missing at)) ≡ Some n →
    n < length (keys_of all)
found_below all None at n h = absurd (cc)
found_below all (Some key) at n h = go (node_with_key all key) refl h
  where
    go : (o : Option ℕ) → node_with_key all key ≡ o → node_at (option_map_or Node o (Missing at)) ≡ Some n →
        n < length (keys_of all)
    go None e g = absurd (cc)
    go (Some m) e g =
        let same : m ≡ n = cc in
        let both = position-Some (bytes_eq key) (keys_of all) m [] e in
        let inside : m < length (keys_of all) = both.0 in
        subst (λ (n : ℕ). n < length (keys_of all)) same inside

end_below : (all : List Element) (x : Element) (b : Bool) (n : ℕ) →
    node_at (cond b Earth (option_map_or Node (option_and_then (node_with_key all) (wanted_key x.entry))
    (Missing x.entry.at))) ≡ Some n → n < length (keys_of all)
end_below all x true n h = absurd (cc)
end_below all x false n h = found_below all (wanted_key x.entry) x.entry.at n h

pub nodes_below : (all xs : List Element) → AllBelow (length (keys_of all)) (nodes_at (map (end_of all) xs))
nodes_below all [] = λ k h. absurd (omega arith)
nodes_below all (x ∷ xs) = below_more (length (keys_of all)) (node_at (end_of all x)) (nodes_at (map (end_of all) xs))
    (λ n e. end_below all x (is_grounded x.entry) n e) (nodes_below all xs)
