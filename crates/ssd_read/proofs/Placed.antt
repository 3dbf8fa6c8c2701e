-- Entries with their places.
use Rattle.std.proofs.Common.{◌≡◌, ℕ, ◌≤◌, ◌<◌, ◌+◌, List, [], ◌∷◌, ◌++◌, length, drop, get_or, Option, Some, None}
use Rattle.std.proofs.Common.{refl, arith, zero, suc, ap, ◌∙◌, sym}
use Rattle.std.specs.List.{slice_get}
use Rattle.std.specs.Option.{option_and_then, option_map, option_map_or}
use Rattle.std.specs.String.{string_bytes}
use Rattle.std.proofs.Common.{drop-cons, add-one, length-drop}
use Rattle.std.proofs.lemmas.List.{nil_from_length}
use Rattle.ssd_read.specs.declared.role.Role.{Role}
use Rattle.ssd_read.specs.declared.role.Role.TheVariants.{Root, Skipped}
use Rattle.ssd_text.specs.Nesting.{Entry}
use Rattle.ssd_read.specs.declared.drawing.DrawnElement.{DrawnElement}
use Rattle.ssd_read.specs.Elements.{Element, element_at, element_after, elements_after, role_under, role_in}
use Rattle.ssd_read.specs.Elements.{unless_grounded, path_in, front_of_tree, elements_of}
use Rattle.ssd_text.specs.Nesting.{entry_at, no_entry}
use Rattle.ssd_read.specs.Seen.{placed, placed_all}

placed_len : (es : List Entry) (ps : List DrawnElement) → length ps ≤ length es →
    length (placed_all es ps) ≡ length ps
placed_len [] [] h = refl
placed_len [] (p ∷ ps) h = absurd (omega arith)
placed_len (e ∷ es) [] h = refl
placed_len (e ∷ es) (p ∷ ps) h = let h' : length ps ≤ length es = omega arith in ap suc (placed_len es ps h')

placed_get : (es : List Entry) (ps : List DrawnElement) (k : ℕ) → length ps ≤ length es →
    slice_get (placed_all es ps) k ≡ option_map (placed (entry_at es k)) (slice_get ps k)
placed_get [] [] k h = refl
placed_get [] (p ∷ ps) k h = absurd (omega arith)
placed_get (e ∷ es) [] k h = refl
placed_get (e ∷ es) (p ∷ ps) zero h = refl
placed_get (e ∷ es) (p ∷ ps) (suc k) h = let h' : length ps ≤ length es = omega arith in placed_get es ps k h'

placed_at : (es : List Entry) (ps : List DrawnElement) (k : ℕ) (d : DrawnElement) → length ps ≡ length es →
    k < length ps → element_at (placed_all es ps) k ≡ placed (entry_at es k) (get_or ps k d)
placed_at [] [] k d h l = absurd (omega arith)
placed_at [] (p ∷ ps) k d h l = absurd (omega arith)
placed_at (e ∷ es) [] k d h l = absurd (omega arith)
placed_at (e ∷ es) (p ∷ ps) zero d h l = refl
placed_at (e ∷ es) (p ∷ ps) (suc k) d h l =
    let h' : length ps ≡ length es = omega arith in
    let l' : k < length ps = omega arith in
    placed_at es ps k d h' l'

pub placed_push : (es : List Entry) (ps : List DrawnElement) (p : DrawnElement) → length ps < length es →
    placed_all es (ps ++ p ∷ []) ≡ placed_all es ps ++ placed (entry_at es (length ps)) p ∷ []
placed_push [] ps p h = absurd (omega arith)
placed_push (e ∷ []) [] p h = refl
placed_push (e ∷ f ∷ es) [] p h = refl
placed_push (e ∷ es) (q ∷ ps) p h = let h' : length ps < length es = omega arith in
    ap (λ l. placed e q ∷ l) (placed_push es ps p h')

pub elements_more : (front : List ℕ) (before : List Element) (e : Entry) (es : List Entry) →
    elements_after front before (e ∷ es) ≡ elements_after front (before ++ element_after front before e ∷ []) es
unfolding elements_after
elements_more front before e es = refl

pub elements_end : (front : List ℕ) (before : List Element) → elements_after front before [] ≡ before
unfolding elements_after
elements_end front before = refl

-- ---- a drawing whose fields are seen

pub in_tree : (t : List Entry) (ps : List DrawnElement) (all : List Element) (i : ℕ) → placed_all t ps ≡ all →
    length ps ≡ length t → i < length all → i < length t
in_tree t ps all i e h l =
    let h' : length ps ≤ length t = omega arith in
    omega (arith, placed_len t ps h', ap length e)

pub in_places : (t : List Entry) (ps : List DrawnElement) (all : List Element) (i : ℕ) → placed_all t ps ≡ all →
    length ps ≡ length t → i < length all → i < length ps
in_places t ps all i e h l =
    let h' : length ps ≤ length t = omega arith in
    omega (arith, placed_len t ps h', ap length e)

pub all_len : (t : List Entry) (ps : List DrawnElement) (all : List Element) → placed_all t ps ≡ all →
    length ps ≡ length t → length t ≡ length all
all_len t ps all e h =
    let h' : length ps ≤ length t = omega arith in
    omega (arith, placed_len t ps h', ap length e)

pub place_is : (t : List Entry) (ps : List DrawnElement) (all : List Element) (i : ℕ) (x : DrawnElement) →
    placed_all t ps ≡ all → length ps ≡ length t → i < length all → x ≡ get_or ps i x →
    element_at all i ≡ placed (entry_at t i) x
place_is t ps all i x e h l r = rw (← e) (placed_at t ps i x h (in_places t ps all i e h l)
    ∙ ap (placed (entry_at t i)) (sym r))

pub entry_is : (t : List Entry) (ps : List DrawnElement) (all : List Element) (i : ℕ) → placed_all t ps ≡ all →
    length ps ≡ length t → i < length all → entry_at t i ≡ (element_at all i).entry
entry_is t [] all i e h l = absurd (omega (arith, in_places t [] all i e h l))
entry_is t (p ∷ ps) all i e h l =
    rw (← e) (sym (ap (λ x. x.entry) (placed_at t (p ∷ ps) i p h (in_places t (p ∷ ps) all i e h l))))

-- ---- the next element

after_above : (front : List ℕ) (before : List Element) (e : Entry) (o : Option Element) →
    option_and_then (slice_get before) e.parent ≡ o
    → element_after front before e ≡ record {
      entry = e;
      role = role_under front o e;
      within = option_map_or (λ x. x.role) o Skipped;
      path = path_in (option_map_or (λ x. x.path) o [])
          (role_under front o e) e;
    }
after_above front before e o h = ap (λ (o : Option Element). let x : Element = record {
  entry = e;
  role = role_under front o e;
  within = option_map_or (λ x. x.role) o Skipped;
  path = path_in (option_map_or (λ x. x.path) o []) (role_under front o e) e;
} in x) h

none_above : (es : List Entry) (ps : List DrawnElement) (p : Option ℕ) → length ps ≤ length es →
    None ≡ option_and_then (slice_get ps) p → option_and_then (slice_get (placed_all es ps)) p ≡ None
none_above es ps None h e = refl
none_above es ps (Some k) h e = placed_get es ps k h ∙ ap (option_map (placed (entry_at es k))) (sym e)

some_above : (es : List Entry) (ps : List DrawnElement) (p : Option ℕ) (q : DrawnElement) → length ps ≤ length es →
    Some q ≡ option_and_then (slice_get ps) p → (d : Entry)
    × (option_and_then (slice_get (placed_all es ps)) p ≡ Some (placed d q))
some_above es ps None q h e = absurd (cc)
some_above es ps (Some k) q h e = (
  entry_at es k,
  placed_get es ps k h
      ∙ ap (option_map (placed (entry_at es k))) (sym e),
)

pub place_root : (front : List ℕ) (es : List Entry) (ps : List DrawnElement) (e : Entry) (p : Option ℕ)
    (path : List ℕ) → length ps ≤ length es → p ≡ e.parent → None ≡ option_and_then (slice_get ps) p
    → path ≡ [] → (let x : Element = record { entry = e; role = Root; within = Skipped; path = path } in x)
    ≡ element_after front (placed_all es ps) e
place_root front es ps e p path h ep n es' =
    let none : option_and_then (slice_get (placed_all es ps)) e.parent ≡ None = rw (← ep) (none_above es ps p h n) in
    rw (after_above front (placed_all es ps) e None none, es') refl

pub place_inner : (front : List ℕ) (es : List Entry) (ps : List DrawnElement) (e : Entry) (p : Option ℕ)
    (q : DrawnElement) (role : Role) (path : List ℕ) → length ps ≤ length es → p ≡ e.parent →
    Some q ≡ option_and_then (slice_get ps) p
    → role ≡ unless_grounded e (role_in q.role front e) → path ≡ path_in (string_bytes q.path) role e →
    (let x : Element = record { entry = e; role = role; within = q.role; path = path } in x) ≡ element_after front
    (placed_all es ps) e
place_inner front es ps e p q role path h ep n er es' =
    let some = some_above es ps p q h n in
    let found : option_and_then (slice_get (placed_all es ps)) e.parent ≡ Some (placed some.0 q) = rw (← ep) some.1 in
    rw (after_above front (placed_all es ps) e (Some (placed some.0 q)) found, es', er) refl

-- ---- all elements

pub placed_none : (es : List Entry) → placed_all es [] ≡ []
placed_none [] = refl
placed_none (e ∷ es) = refl

pub elements_start : (front : List ℕ) (es : List Entry) (ps : List DrawnElement) → front ≡ front_of_tree es → ps ≡ [] →
    elements_after front (placed_all es ps) es ≡ elements_of es
elements_start front es ps ef ep = rw (ep, placed_none es, ef) refl

pub elements_next : (front : List ℕ) (es : List Entry) (ps qs : List DrawnElement) (p : DrawnElement) (i : ℕ)
    (all : List Element) → length ps ≡ i → i < length es → qs ≡ ps ++ p ∷ []
    → placed (entry_at es i) p ≡ element_after front (placed_all es ps) (entry_at es i) →
    elements_after front (placed_all es ps) (drop i es) ≡ all →
    elements_after front (placed_all es qs) (drop (i + 1) es) ≡ all
elements_next front es ps qs p i all h l eq ep g =
    let short : length ps < length es = omega arith in
    let cut : drop i es ≡ entry_at es i ∷ drop (suc i) es = drop-cons es i no_entry l in
    let whole : placed_all es qs ≡ placed_all es ps ++ element_after front (placed_all es ps) (entry_at es i) ∷ [] =
    rw (eq, placed_push es ps p short, h, ep) refl in
    rw (whole, add-one, ← elements_more front (placed_all es ps) (entry_at es i) (drop (suc i) es), ← cut) g

pub elements_whole : (front : List ℕ) (es : List Entry) (ps : List DrawnElement) (i : ℕ) (all : List Element) →
    length es ≤ i → elements_after front (placed_all es ps) (drop i es) ≡ all → placed_all es ps ≡ all
elements_whole front es ps i all h g =
    let none : drop i es ≡ [] = nil_from_length (drop i es) (omega (arith, length-drop i es)) in
    let g' : elements_after front (placed_all es ps) [] ≡ all = rw (← none) g in
    sym (elements_end front (placed_all es ps)) ∙ g'
