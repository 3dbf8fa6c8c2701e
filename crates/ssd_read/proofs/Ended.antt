-- Lists of ends.
use Rattle.std.proofs.Common.{◌≡◌, ℕ, ◌≤◌, ◌<◌, ◌+◌, List, [], ◌∷◌, ◌++◌, length, map, get_or, set, replicate}
use Rattle.std.proofs.Common.{Option, Some, None, Bool, true, false, cond, refl, arith, zero, suc, ap, ◌∙◌, sym, Vec}
use Rattle.std.proofs.Common.{Global}
use Rattle.std.specs.List.{filter, slice_get, cons_option}
use Rattle.std.proofs.lemmas.List.{replicate-append-replicate}
use Rattle.std.proofs.lemmas.Option.{slice_get_past, slice_get-get_or}
use Rattle.std.proofs.lemmas.Bool.{ne_eqb, eqb-false}
use Rattle.ssd_read.specs.Ends.{node_at, nodes_at}
use borrow.Author.Tests.{eqb-true}
use Rattle.std.proofs.Common.{◌&&◌, ◌==◌, get_or-set_same, get_or-set_other}
use Rattle.ssd_read.specs.declared.role.Role.TheVariants.{Terminal, TransformerWinding}
use Rattle.ssd_read.specs.Ends.{is_number}
use Rattle.ssd_read.specs.Steps.{is_winding_terminal_of}
use Rattle.ssd_read.specs.declared.terminal_place.TerminalPlace.{TerminalPlace}
use Rattle.ssd_read.specs.Elements.{Element, element_at, nowhere, same_role}
use Rattle.ssd_read.specs.Names.{keys_of, key_of, is_node}

abbrev pub TerminalPlaces : Type 0
TerminalPlaces = Vec TerminalPlace Global

map_set : (ls : List TerminalPlaces) (i : ℕ) (w : TerminalPlaces) → map (λ (v : TerminalPlaces). v.items) (set ls i w)
    ≡ set (map (λ (v : TerminalPlaces). v.items) ls) i w.items
map_set [] i w = refl
map_set (l ∷ ls) zero w = refl
map_set (l ∷ ls) (suc i) w = ap (λ r. l.items ∷ r) (map_set ls i w)

map_at : (ls : List TerminalPlaces) (i : ℕ) (v : TerminalPlaces) → i < length ls →
    get_or (map (λ (v : TerminalPlaces). v.items) ls) i [] ≡ (get_or ls i v).items
map_at [] i v h = absurd (omega arith)
map_at (l ∷ ls) zero v h = refl
map_at (l ∷ ls) (suc i) v h = let h' : i < length ls = omega arith in map_at ls i v h'

map_len : (ls : List TerminalPlaces) → length (map (λ (v : TerminalPlaces). v.items) ls) ≡ length ls
map_len [] = refl
map_len (l ∷ ls) = ap suc (map_len ls)

pub pushed : (ls : List TerminalPlaces) (all : List (List TerminalPlace)) (i : ℕ) (v w : TerminalPlaces)
    (e : TerminalPlace) → map (λ (v : TerminalPlaces). v.items) ls ≡ all → i < length all → v ≡ get_or ls i v →
    w.items ≡ v.items ++ e ∷ []
    → map (λ (v : TerminalPlaces). v.items) (set ls i w) ≡ set all i (get_or all i [] ++ e ∷ [])
pushed ls all i v w e view h r p =
    let h' : i < length ls = omega (arith, map_len ls, ap length view) in
    let old : get_or all i [] ≡ v.items =
    rw (← view) (map_at ls i v h' ∙ ap (λ (v : TerminalPlaces). v.items) (sym r)) in
    rw (old, ← p, ← view) (map_set ls i w)

ends_map : (xs ys : List TerminalPlaces) → map (λ (v : TerminalPlaces). v.items) (xs ++ ys)
    ≡ map (λ (v : TerminalPlaces). v.items) xs ++ map (λ (v : TerminalPlaces). v.items) ys
ends_map [] ys = refl
ends_map (x ∷ xs) ys = ap (λ l. x.items ∷ l) (ends_map xs ys)

empty_more : (i : ℕ) → replicate i (let none : List TerminalPlace = [] in none) ++ [] ∷ [] ≡ replicate (i + 1) []
empty_more i = replicate-append-replicate i 1 (let none : List TerminalPlace = [] in none)

pub one_more_empty : (ls ms : List TerminalPlaces) (v : TerminalPlaces) (i : ℕ) →
    map (λ (v : TerminalPlaces). v.items) ls ≡ replicate i [] → ms ≡ ls ++ v ∷ [] → v.items ≡ [] →
    map (λ (v : TerminalPlaces). v.items) ms ≡ replicate (i + 1) []
one_more_empty ls ms v i h e n =
    ap (map (λ (v : TerminalPlaces). v.items)) e
    ∙ (ends_map ls (v ∷ []) ∙ (let tail : map (λ (v : TerminalPlaces). v.items) (v ∷ []) ≡ [] ∷ [] =
    ap (λ l. l ∷ []) n in rw (h, tail) (empty_more i)))

step : (b : Bool) (x : Element) (xs : List Element) → length (filter is_node xs) ≤ length xs →
    length (cond b (x ∷ filter is_node xs) (filter is_node xs)) ≤ length (x ∷ xs)
step true x xs h = omega arith
step false x xs h = omega arith

filter_len : (xs : List Element) → length (filter is_node xs) ≤ length xs
filter_len [] = omega arith
filter_len (x ∷ xs) = step (is_node x) x xs (filter_len xs)

pub map_keys_len : (xs : List Element) → length (map key_of xs) ≡ length xs
map_keys_len [] = refl
map_keys_len (x ∷ xs) = ap suc (map_keys_len xs)

pub keys_len : (all : List Element) → length (keys_of all) ≤ length all
keys_len all = rw (map_keys_len (filter is_node all)) (filter_len all)

and_false : (b : Bool) → (b && false) ≡ false
and_false true = refl
and_false false = refl

pub out_of_tree : (all : List Element) (j : ℕ) (x : Element) (holder : ℕ) → Some holder ≡ x.entry.parent →
    length all ≤ holder → is_winding_terminal_of all j x ≡ false
out_of_tree all j x holder e h =
    let past : slice_get all holder ≡ None = slice_get_past all holder h in
    rw (← e, past) (and_false (same_role x.role Terminal && same_role x.within TransformerWinding))

winding_test : (all : List Element) (j : ℕ) (x : Element) (holder : ℕ) → same_role x.role Terminal ≡ true →
    x.entry.parent ≡ Some holder → holder < length all
    → is_winding_terminal_of all j x ≡ (same_role x.within TransformerWinding && is_number j
    (element_at all holder).entry.parent)
winding_test all j x holder t e h =
    let found : slice_get all holder ≡ Some (element_at all holder) = slice_get-get_or all holder nowhere h in
    rw (e, found, t) refl

pub orphan_test : (all : List Element) (j : ℕ) (x : Element) (holder : ℕ) → same_role x.role Terminal ≡ true →
    x.entry.parent ≡ Some holder → holder < length all → None ≡ (element_at all holder).entry.parent →
    is_winding_terminal_of all j x ≡ false
orphan_test all j x holder t e h n = winding_test all j x holder t e h
    ∙ rw (← n) (and_false (same_role x.within TransformerWinding))

pub far_test : (all : List Element) (j : ℕ) (x : Element) (holder outer : ℕ) → same_role x.role Terminal ≡ true →
    x.entry.parent ≡ Some holder → holder < length all → Some outer ≡ (element_at all holder).entry.parent →
    j < length all → length all ≤ outer
    → is_winding_terminal_of all j x ≡ false
far_test all j x holder outer t e h n l o =
    let apart : (j == outer) ≡ false = ne_eqb j outer (λ q. omega arith) in
    winding_test all j x holder t e h ∙ rw (← n, apart) (and_false (same_role x.within TransformerWinding))

pub near_test : (all : List Element) (j : ℕ) (x : Element) (holder outer : ℕ) → same_role x.role Terminal ≡ true →
    x.entry.parent ≡ Some holder → holder < length all → Some outer ≡ (element_at all holder).entry.parent →
    same_role x.within TransformerWinding ≡ true
    → is_winding_terminal_of all j x ≡ (j == outer)
near_test all j x holder outer t e h n w = winding_test all j x holder t e h ∙ rw (← n, w) refl

nil_end : (xs : List TerminalPlace) → xs ≡ xs ++ []
nil_end [] = refl
nil_end (x ∷ xs) = ap (λ l. x ∷ l) (nil_end xs)

put_case : (old : List (List TerminalPlace)) (i j : ℕ) (e : TerminalPlace) (b : Bool) → (j == i) ≡ b → i < length old →
    get_or (set old i (get_or old i [] ++ e ∷ [])) j [] ≡ get_or old j [] ++ cond b (e ∷ []) []
put_case old i j e true q h = let same : j ≡ i = eqb-true j i q in rw (same, get_or-set_same) refl
put_case old i j e false q h = get_or-set_other old i j (get_or old i [] ++ e ∷ []) [] (eqb-false j i q)
    ∙ nil_end (get_or old j [])

pub put_at : (old new : List (List TerminalPlace)) (i j : ℕ) (e : TerminalPlace) →
    new ≡ set old i (get_or old i [] ++ e ∷ []) → i < length old → get_or new j [] ≡ get_or old j [] ++ cond
    (j == i) (e ∷ []) []
put_at old new i j e p h = rw p (put_case old i j e (j == i) refl h)

pub put_none : (old : List TerminalPlace) (e : TerminalPlace) (b : Bool) → b ≡ false → old ≡ old ++ cond b (e ∷ []) []
put_none old e b h = rw h (nil_end old)

len_step : (f : Element → TerminalPlace) (p : Element → Bool) (b : Bool) (x : Element) (xs : List Element) →
    length (map f (filter p xs)) ≤ length xs → length (map f (cond b (x ∷ filter p xs) (filter p xs))) ≤ length (x ∷ xs)
len_step f p true x xs h = omega arith
len_step f p false x xs h = omega arith

pub ends_len : (all : List Element) (f : Element → TerminalPlace) (p : Element → Bool) →
    length (map f (filter p all)) ≤ length all
ends_len [] f p = omega arith
ends_len (x ∷ xs) f p = len_step f p (p x) x xs (ends_len xs f p)

node_step : (o : Option ℕ) (n : ℕ) (rest : List ℕ) → length rest ≤ n → length (cons_option o rest) ≤ suc n
node_step None n rest h = omega arith
node_step (Some y) n rest h = omega arith

pub nodes_len : (ends : List TerminalPlace) → length (nodes_at ends) ≤ length ends
nodes_len [] = omega arith
nodes_len (x ∷ xs) = node_step (node_at x) (length xs) (nodes_at xs) (nodes_len xs)
