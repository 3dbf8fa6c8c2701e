-- A document is read.
use Rattle.std.proofs.Common.{◌≡◌, ℕ, suc, ◌+◌, ◌<◌, ◌≤◌, Bool, true, false, cond, eqb, not, ◌&&◌, leb, List, [], ◌∷◌}
use Rattle.std.proofs.Common.{◌++◌, length, drop, map, count_by, None, Ok, refl, sym, ap, subst, ◌∙◌, append_assoc}
use Rattle.std.proofs.Common.{inl, arith}
use Rattle.std.proofs.lemmas.List.{length-append}
use Rattle.std.proofs.lemmas.Slice.Eq.{bytes_eq-Decides}
use Rattle.std.proofs.lemmas.Bool.Decides.{nat_tests}
use Rattle.ssd_text.specs.Grammar.{Piece, spelling}
use Rattle.ssd_text.specs.Nesting.{Entry, Open, Nest, Shape, shape, passed, literal, characters, opens, closes, opened}
use Rattle.ssd_text.specs.Nesting.{start_fault, step, at_end, Goes, Spells, mark_len, nothing}
use Rattle.ssd_text.specs.Document.{IsCut, IsBeside, IsElement, at_once, with_content, IsContent, none, pass}
use Rattle.ssd_text.specs.Document.{data_section, text, child, begins_element, SpellsDocument}
use Rattle.ssd_text.proofs.Nested.{starts, ends_same, inside_literal, inside_told, told_blank, step_passed}
use Rattle.ssd_text.proofs.Grammatical.{kept, one_in_front, step_count}
use Rattle.ssd_text.proofs.Closing.{Closes, nest, not_zero}
use Rattle.ssd_text.specs.declared.limits.TheConstants.{DEPTH, ELEMENTS}

-- what a step owes: it is taken, and what is left closes the open elements
abbrev GoesOn : ℕ → Nest → Shape → List Shape → Type 0
GoesOn at n s ss = (m : Nest) × (deep : ℕ) × (step at n s ≡ Ok m) × (deep + length m.within ≡ DEPTH)
    × Closes deep m.within ss

-- ---- the fault that does not come

no_fault : (at depth count : ℕ) → (eqb depth 0 && not (eqb count 0)) ≡ false → depth < DEPTH → count < ELEMENTS →
    None ≡ start_fault at depth count
unfolding start_fault
no_fault at depth count root d c =
    let deep : leb DEPTH depth ≡ false = grind (arith, nat_tests) in
    let many : leb ELEMENTS count ≡ false = grind (arith, nat_tests) in
    rw (root, deep, many) refl

inside_root : (k : ℕ) (b : Bool) → (eqb (suc k) 0 && b) ≡ false
inside_root k b = rw (not_zero k) refl

-- ---- the first shape of a list of them

head_is : (s t : Shape) (ss ts : List Shape) → s ∷ ss ≡ t ∷ ts → s ≡ t
head_is s t ss ts e = cc

tail_is : (s t : Shape) (ss ts : List Shape) → s ∷ ss ≡ t ∷ ts → ss ≡ ts
tail_is s t ss ts e = cc

-- ---- steps inside an element

on_closes : (deep at : ℕ) (es : List Entry) (o : Open) (os : List Open) (ss : List Shape) →
    deep + length (o ∷ os) ≡ DEPTH → Closes (suc deep) os ss → GoesOn at (nest es (o ∷ os)) (closes o.name) ss
on_closes deep at es o os ss fits h = (
  nest es os,
  suc deep,
  sym (ends_same at (nest es (o ∷ os)) o.name o os refl
      ((bytes_eq-Decides o.name o.name).1 refl)),
  omega (arith, fits),
  h,
)

on_passed : (deep at : ℕ) (n : Nest) (ss : List Shape) → deep + length n.within ≡ DEPTH → Closes deep n.within ss →
    GoesOn at n passed ss
on_passed deep at n ss fits h = (n, deep, sym (step_passed at n), fits, h)

on_literal : (deep at : ℕ) (es : List Entry) (o : Open) (os : List Open) (ss : List Shape) →
    deep + length (o ∷ os) ≡ DEPTH → Closes deep (o ∷ os) ss → GoesOn at (nest es (o ∷ os)) literal ss
on_literal deep at es o os ss fits h =
    (nest es (o ∷ os), deep, sym (inside_literal at (nest es (o ∷ os)) (not_zero (length os))), fits, h)

on_told : (deep at : ℕ) (es : List Entry) (o : Open) (os : List Open) (b : Bool) (ss : List Shape) →
    deep + length (o ∷ os) ≡ DEPTH → Closes deep (o ∷ os) ss → GoesOn at (nest es (o ∷ os)) (characters b) ss
on_told deep at es o os b ss fits h =
    (nest es (o ∷ os), deep, sym (inside_told at (nest es (o ∷ os)) b (not_zero (length os))), fits, h)

-- a start tag that is taken
taken : (at : ℕ) (es : List Entry) (within : List Open) (name : List ℕ) (ps : List (List ℕ × List ℕ)) (c : Bool) →
    None ≡ start_fault at (length within) (length es) → step at (nest es within) (opens name ps c)
    ≡ Ok (opened at (nest es within) name ps c)
taken at es within name ps c free = sym (starts at (nest es within) name ps c (length within) (length es)
    refl refl free)

on_at_once : (deep at : ℕ) (es : List Entry) (within : List Open) (name : List ℕ) (ps : List (List ℕ × List ℕ))
    (ss : List Shape) → None ≡ start_fault at (length within) (length es) → deep + length within ≡ DEPTH →
    Closes deep within ss → GoesOn at (nest es within) (opens name ps true) ss
on_at_once deep at es within name ps ss free fits h =
    (opened at (nest es within) name ps true, deep, taken at es within name ps true free, fits, h)

on_content : (deep at : ℕ) (es : List Entry) (within : List Open) (name : List ℕ) (ps : List (List ℕ × List ℕ))
    (content rest : List Shape) → None ≡ start_fault at (length within) (length es) → suc deep + length within ≡ DEPTH →
    IsContent deep content → Closes (suc deep) within rest → GoesOn at (nest es within) (opens name ps false)
    (content ++ (closes name ∷ rest))
on_content deep at es within name ps content rest free fits is h = (
  opened at (nest es within) name ps false,
  deep,
  taken at es within name ps false free,
  omega (arith, fits),
  (content, rest, is, refl, h),
)

-- an element in an element
on_child : (deep at : ℕ) (es : List Entry) (o : Open) (os : List Open) (s : Shape)
    (ss element content rest : List Shape) → IsElement deep element → IsContent deep content →
    s ∷ ss ≡ (element ++ content) ++ (closes o.name ∷ rest) → Closes (suc deep) os rest →
    deep + length (o ∷ os) ≡ DEPTH →
    (begins_element s ≡ true → length es < ELEMENTS) → GoesOn at (nest es (o ∷ os)) s ss
on_child deep at es o os s ss element content rest (at_once d name ps) c e h fits few =
    let head = head_is s (opens name ps true) ss (content ++ (closes o.name ∷ rest)) e in
    let tail = tail_is s (opens name ps true) ss (content ++ (closes o.name ∷ rest)) e in
    let free = no_fault at (length (o ∷ os)) (length es) (inside_root (length os) _) (omega (arith, fits))
    (few (ap begins_element head)) in
    subst (λ (z : Shape). GoesOn at (nest es (o ∷ os)) z ss) (sym head)
    (subst (λ (z : List Shape). GoesOn at (nest es (o ∷ os)) (opens name ps true) z) (sym tail)
    (on_at_once (suc d) at es (o ∷ os) name ps (content ++ (closes o.name ∷ rest)) free fits
    (content, rest, c, refl, h)))
on_child deep at es o os s ss element content rest (with_content d name ps inner is) c e h fits few =
    let more : List Shape = content ++ (closes o.name ∷ rest) in
    let whole : ((opens name ps false ∷ (inner ++ (closes name ∷ []))) ++ content) ++ (closes o.name ∷ rest)
    ≡ opens name ps false ∷ (inner ++ (closes name ∷ more)) = regrouped (opens name ps false) (closes name) inner
    content (closes o.name ∷ rest) in
    let head = head_is s (opens name ps false) ss (inner ++ (closes name ∷ more)) (e ∙ whole) in
    let tail = tail_is s (opens name ps false) ss (inner ++ (closes name ∷ more)) (e ∙ whole) in
    let free = no_fault at (length (o ∷ os)) (length es) (inside_root (length os) _) (omega (arith, fits))
    (few (ap begins_element head)) in
    subst (λ (z : Shape). GoesOn at (nest es (o ∷ os)) z ss) (sym head)
    (subst (λ (z : List Shape). GoesOn at (nest es (o ∷ os)) (opens name ps false) z) (sym tail)
    (on_content d at es (o ∷ os) name ps inner more free fits is (content, rest, c, refl, h)))
  where
    regrouped : (a b : Shape) (x y z : List Shape) → ((a ∷ (x ++ (b ∷ []))) ++ y) ++ z ≡ a ∷ (x ++ (b ∷ (y ++ z)))
    regrouped a b x y z = simp append_assoc

inside : (deep at : ℕ) (es : List Entry) (o : Open) (os : List Open) (s : Shape) (ss content rest : List Shape) →
    IsContent deep content → s ∷ ss ≡ content ++ (closes o.name ∷ rest) → Closes (suc deep) os rest →
    deep + length (o ∷ os) ≡ DEPTH → (begins_element s ≡ true → length es < ELEMENTS) →
    GoesOn at (nest es (o ∷ os)) s ss
inside deep at es o os s ss content rest (none d) e h fits few =
    let head = head_is s (closes o.name) ss rest e in
    let tail = tail_is s (closes o.name) ss rest e in
    subst (λ (z : Shape). GoesOn at (nest es (o ∷ os)) z ss) (sym head) (on_closes d at es o os ss fits
    (subst (Closes (suc d) os) (sym tail) h))
inside deep at es o os s ss content rest (pass d cs c) e h fits few =
    let head = head_is s passed ss (cs ++ (closes o.name ∷ rest)) e in
    let tail = tail_is s passed ss (cs ++ (closes o.name ∷ rest)) e in
    subst (λ (z : Shape). GoesOn at (nest es (o ∷ os)) z ss) (sym head) (on_passed d at (nest es (o ∷ os)) ss fits
    (cs, rest, c, tail, h))
inside deep at es o os s ss content rest (data_section d cs c) e h fits few =
    let head = head_is s literal ss (cs ++ (closes o.name ∷ rest)) e in
    let tail = tail_is s literal ss (cs ++ (closes o.name ∷ rest)) e in
    subst (λ (z : Shape). GoesOn at (nest es (o ∷ os)) z ss) (sym head) (on_literal d at es o os ss fits
    (cs, rest, c, tail, h))
inside deep at es o os s ss content rest (text d b cs c) e h fits few =
    let head = head_is s (characters b) ss (cs ++ (closes o.name ∷ rest)) e in
    let tail = tail_is s (characters b) ss (cs ++ (closes o.name ∷ rest)) e in
    subst (λ (z : Shape). GoesOn at (nest es (o ∷ os)) z ss) (sym head) (on_told d at es o os b ss fits
    (cs, rest, c, tail, h))
inside deep at es o os s ss content rest (child d element cs is c) e h fits few =
    on_child d at es o os s ss element cs rest is c e h fits few

-- ---- one step

forth : (deep at : ℕ) (es : List Entry) (within : List Open) (s : Shape) (ss : List Shape) →
    deep + length within ≡ DEPTH →
    (begins_element s ≡ true → length es < ELEMENTS) → Closes deep within (s ∷ ss) → GoesOn at (nest es within) s ss
forth deep at es [] passed ss fits few h = on_passed deep at (nest es []) ss fits h
forth deep at es [] (characters true) ss fits few h = (nest es [], deep, sym (told_blank at (nest es [])), fits, h)
forth deep at es [] (characters false) ss fits few h = absurd h
forth deep at es [] literal ss fits few h = absurd h
forth deep at es [] (opens name ps c) ss fits few h = absurd h
forth deep at es [] (closes name) ss fits few h = absurd h
forth deep at es (o ∷ os) s ss fits few h = inside deep at es o os s ss h.0 h.1 h.2 h.3 h.4 fits few

-- ---- all of them

abbrev as_number : Bool → ℕ
as_number b = cond b 1 0

room : (s : Shape) (ss : List Shape) (count : ℕ) → count + count_by begins_element (s ∷ ss) ≤ ELEMENTS →
    begins_element s ≡ true → count < ELEMENTS
room s ss count le is = let one = ap as_number is in omega (arith, le, one_in_front s ss, one)

ends : (deep at : ℕ) (x : Entry) (es : List Entry) (within : List Open) → Closes deep within [] →
    Ok (x ∷ es) ≡ at_end at (x ∷ es) within
unfolding at_end
ends deep at x es [] h = refl
ends deep at x es (o ∷ os) h = absurd (omega (arith, ap length h.3, length-append h.0 (closes o.name ∷ h.1)))

goes_on : (ps : List Piece) (deep at : ℕ) (x : Entry) (es : List Entry) (within : List Open) (bytes : List ℕ) →
    IsCut bytes ps → deep + length within ≡ DEPTH → length (x ∷ es) + count_by begins_element (map shape ps)
    ≤ ELEMENTS →
    Closes deep within (map shape ps) → (tree : List Entry) × Goes at (nest (x ∷ es) within) bytes ps (Ok tree)
goes_on [] deep at x es within bytes cut fits few h = (x ∷ es, inl (cut, ends deep at x es within h))
goes_on (p ∷ ps) deep at x es within bytes cut fits few h =
    let g = forth deep at (x ∷ es) within (shape p) (map shape ps) fits (room (shape p) (map shape ps)
    (length (x ∷ es)) few) h in
    let k = kept at x es within (shape p) g.0 g.2 in
    let fewer : length (x ∷ k.0) + count_by begins_element (map shape ps) ≤ ELEMENTS =
    omega (
      arith,
      few,
      one_in_front (shape p) (map shape ps),
      step_count at (nest (x ∷ es) within) g.0 (shape p) g.2,
      ap length k.1,
    ) in
    let rest = goes_on ps g.1 (at + length (spelling p)) x k.0 g.0.within cut.0 cut.2 g.3 fewer g.4 in (
      rest.0,
      (
        cut.0,
        g.0,
        cut.1,
        g.2,
        subst (λ (ys : List Entry). Goes (at + length (spelling p)) (nest ys g.0.within)
            cut.0 ps (Ok rest.0)) (sym k.1) rest.1,
      ),
    )

-- ---- the root and what stands beside it

element_some : (deep : ℕ) (element : List Shape) → IsElement deep element → 0 < length element
element_some deep element (at_once d name ps) = omega arith
element_some deep element (with_content d name ps content is) = omega arith

free : (at : ℕ) → None ≡ start_fault at 0 0
free at = no_fault at 0 0 refl (omega arith) (omega arith)

fewer : (s : Shape) (ss : List Shape) → count_by begins_element (s ∷ ss) ≤ ELEMENTS → begins_element s ≡ true →
    1 + count_by begins_element ss ≤ ELEMENTS
fewer s ss le is = let one = ap as_number is in omega (arith, le, one_in_front s ss, one)

-- from the root on
root_goes : (p : Piece) (ps : List Piece) (deep at : ℕ) (bytes : List ℕ) (root behind : List Shape) →
    IsCut bytes (p ∷ ps) → deep ≡ DEPTH → shape p ∷ map shape ps ≡ root ++ behind → IsElement deep root →
    IsBeside behind →
    count_by begins_element (shape p ∷ map shape ps) ≤ ELEMENTS → (tree : List Entry)
    × Goes at nothing bytes (p ∷ ps) (Ok tree)
root_goes p ps deep at bytes root behind cut all e (at_once d name qs) beside few =
    let head = head_is (shape p) (opens name qs true) (map shape ps) behind e in
    let tail = tail_is (shape p) (opens name qs true) (map shape ps) behind e in
    let x : Entry = record { at = at; parent = None; name = name; attributes = qs } in
    let g = goes_on ps DEPTH (at + length (spelling p)) x [] [] cut.0 cut.2 (omega arith)
    (fewer (shape p) (map shape ps) few (ap begins_element head)) (subst IsBeside (sym tail) beside) in
    (g.0, (cut.0, nest (x ∷ []) [], cut.1, ap (step at nothing) head ∙ taken at [] [] name qs true (free at), g.1))
root_goes p ps deep at bytes root behind cut all e (with_content d name qs content is) beside few =
    let more : List Shape = content ++ (closes name ∷ behind) in
    let whole = e ∙ ap (λ (z : List Shape). opens name qs false ∷ z) (append_assoc content (closes name ∷ []) behind) in
    let head = head_is (shape p) (opens name qs false) (map shape ps) more whole in
    let tail = tail_is (shape p) (opens name qs false) (map shape ps) more whole in
    let x : Entry = record { at = at; parent = None; name = name; attributes = qs } in
    let new : Open = record { at = at; number = 0; name = name } in
    let g = goes_on ps d (at + length (spelling p)) x [] (new ∷ []) cut.0 cut.2 (omega (arith, all))
    (fewer (shape p) (map shape ps) few (ap begins_element head)) (content, behind, is, tail, beside) in (
      g.0,
      (
        cut.0,
        nest (x ∷ []) (new ∷ []),
        cut.1,
        ap (step at nothing) head ∙ taken at [] [] name qs false
            (free at),
        g.1,
      ),
    )

-- what stands beside the root changes nothing
passes : (at : ℕ) (s : Shape) (ss : List Shape) → IsBeside (s ∷ ss) → (step at nothing s ≡ Ok nothing) × IsBeside ss
passes at passed ss b = (sym (step_passed at nothing), b)
passes at (characters true) ss b = (sym (told_blank at nothing), b)
passes at (characters false) ss b = absurd b
passes at literal ss b = absurd b
passes at (opens name ps c) ss b = absurd b
passes at (closes name) ss b = absurd b

document_goes : (ps : List Piece) (at : ℕ) (bytes : List ℕ) (before root behind : List Shape) → IsCut bytes ps →
    map shape ps ≡ before ++ (root ++ behind) → IsBeside before → IsElement DEPTH root → IsBeside behind →
    count_by begins_element (map shape ps) ≤ ELEMENTS → (tree : List Entry) × Goes at nothing bytes ps (Ok tree)
document_goes [] at bytes before root behind cut e b is beside few =
    absurd (omega (
      arith,
      ap length e,
      length-append before (root ++ behind),
      length-append root behind,
      element_some DEPTH root is,
    ))
document_goes (p ∷ ps) at bytes [] root behind cut e b is beside few =
    root_goes p ps DEPTH at bytes root behind cut refl e
    is beside few
document_goes (p ∷ ps) at bytes (x ∷ before) root behind cut e b is beside few =
    let head = head_is (shape p) x (map shape ps) (before ++ (root ++ behind)) e in
    let tail = tail_is (shape p) x (map shape ps) (before ++ (root ++ behind)) e in
    let here = passes at x before b in
    let g = document_goes ps (at + length (spelling p)) cut.0 before root behind cut.2 tail here.1 is beside
    (omega (arith, few, one_in_front (shape p) (map shape ps))) in
    (g.0, (cut.0, nothing, cut.1, ap (step at nothing) head ∙ here.0, g.1))

pub read_ok : (bytes : List ℕ) → SpellsDocument bytes → (tree : List Entry) × Spells bytes (Ok tree)
read_ok bytes h =
    let d = h.3 in
    let g = document_goes h.1 (mark_len bytes) (drop (mark_len bytes) bytes) d.0 d.1 d.2 h.2 d.3 d.4 d.5 d.6 d.7 in
    (g.0, inl (h.0, (h.1, g.1)))
