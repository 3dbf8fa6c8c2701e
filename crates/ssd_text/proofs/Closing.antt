-- What closes the open elements, piece by piece.
use Rattle.std.proofs.Common.{◌≡◌, ℕ, zero, suc, ◌+◌, ◌<◌, ◌≤◌, Bool, true, false, cond, eqb, not, ◌&&◌, leb, List, []}
use Rattle.std.proofs.Common.{◌∷◌, ◌++◌, length, Option, Some, None, Result, Ok, Err, refl, sym, ap, subst, ◌∙◌}
use Rattle.std.proofs.Common.{append_assoc, inl, inr, arith}
use Rattle.std.specs.Option.{option_map_or}
use Rattle.std.specs.Str.{bytes_eq}
use Rattle.std.proofs.lemmas.Slice.Eq.{bytes_eq-Decides}
use Rattle.std.proofs.lemmas.Bool.{false≢true, cases_lt, le-leb}
use Rattle.std.proofs.lemmas.Bool.Decides.{nat_tests}
use Rattle.ssd_text.specs.declared.refusal.TextRefusal.{TextRefusal}
use Rattle.ssd_text.specs.declared.refusal.TextRefusal.TheVariants.{Syntax, Deep, Many, Mismatch}
use Rattle.ssd_text.specs.Nesting.{Entry, Open, Nest, Shape, passed, literal, characters, opens}
use Rattle.ssd_text.specs.Nesting.{closes, opened, ended, start_fault, step}
use Rattle.ssd_text.specs.Document.{IsBeside, IsElement, at_once, with_content, IsContent, none, pass}
use Rattle.ssd_text.specs.Document.{data_section, text, child}
use Rattle.ssd_text.specs.declared.limits.TheConstants.{DEPTH, ELEMENTS}

-- what is left to close the open elements, the innermost first, and then stands beside the root
abbrev pub Closes : ℕ → List Open → List Shape → Type 0
Closes deep [] ss = IsBeside ss
Closes deep (o ∷ os) ss = (content : List Shape) × (rest : List Shape) × IsContent deep content
    × (ss ≡ content ++ (closes o.name ∷ rest)) × Closes (suc deep) os rest

-- the same, as deep as there is room
abbrev pub Left : List Open → List Shape → Type 0
Left within ss = (deep : ℕ) → deep + length within ≡ DEPTH → Closes deep within ss

abbrev made : Nest → Result Nest TextRefusal
made n = Ok n

more_content : (deep : ℕ) (o : Open) (os : List Open) (s : Shape) (ss : List Shape) →
    ((content : List Shape) → IsContent deep content → IsContent deep (s ∷ content)) → Closes deep (o ∷ os) ss →
    Closes deep (o ∷ os) (s ∷ ss)
more_content deep o os s ss add h = (s ∷ h.0, h.1, add h.0 h.2, ap (λ (z : List Shape). s ∷ z) h.3, h.4)

-- an element in front of what closes the open ones
one_child : (deep : ℕ) (o : Open) (os : List Open) (element ss : List Shape) → IsElement deep element →
    Closes deep (o ∷ os) ss → Closes deep (o ∷ os) (element ++ ss)
one_child deep o os element ss is h = (
  element ++ h.0,
  h.1,
  child deep element h.0 is h.2,
  ap (λ (z : List Shape). element ++ z) h.3 ∙ sym (append_assoc element h.0 (closes o.name ∷ h.1)),
  h.4,
)

-- a start tag whose element is closed by what follows
full_child : (deep : ℕ) (o new : Open) (os : List Open) (name : List ℕ) (ps : List (List ℕ × List ℕ))
    (ss : List Shape) → new.name ≡ name → Closes deep (new ∷ o ∷ os) ss →
    Closes (suc deep) (o ∷ os) (opens name ps false ∷ ss)
full_child deep o new os name ps ss same h =
    let element : List Shape = opens name ps false ∷ (h.0 ++ (closes name ∷ [])) in
    let whole : opens name ps false ∷ ss ≡ element ++ h.1 = ap (λ (z : List Shape). opens name ps false ∷ z) (h.3
    ∙ ap (λ (n : List ℕ). h.0 ++ (closes n ∷ h.1)) same ∙ sym (append_assoc h.0 (closes name ∷ []) h.1)) in
    subst (Closes (suc deep) (o ∷ os)) (sym whole) (one_child (suc deep) o os element h.1
    (with_content deep name ps h.0 h.2) h.4)

abbrev pub nest : List Entry → List Open → Nest
nest es within = record { entries = es; within = within }

sames : (n m : Nest) → made n ≡ made m → n ≡ m
sames n m e = cc

never : {A : Type 0} (f : TextRefusal) (m : Nest) → ◌≡◌ {A = Result Nest TextRefusal} (Err f) (Ok m) → A
never f m e = absurd cc

pub not_zero : (k : ℕ) → eqb (suc k) 0 ≡ false
not_zero k = grind (arith, nat_tests)

pub literal_same : (at : ℕ) (es : List Entry) (o : Open) (os : List Open) (m : Nest) →
    step at (nest es (o ∷ os)) literal ≡ Ok m → m ≡ nest es (o ∷ os)
unfolding step
literal_same at es o os m e = sym (sames (nest es (o ∷ os)) m (rw (not_zero (length os)) at e))

pub told_same : (at : ℕ) (es : List Entry) (o : Open) (os : List Open) (b : Bool) (m : Nest) →
    step at (nest es (o ∷ os)) (characters b) ≡ Ok m → m ≡ nest es (o ∷ os)
unfolding step
told_same at es o os b m e = sym (sames (nest es (o ∷ os)) m (rw (not_zero (length os)) at e))

pub closes_entries : (at : ℕ) (es : List Entry) (o : Open) (os : List Open) (name : List ℕ) (m : Nest) →
    step at (nest es (o ∷ os)) (closes name) ≡ Ok m → m.entries ≡ es
unfolding step ended
closes_entries at es o os name m e = by_test (bytes_eq o.name name) e
  where
    by_test : (b : Bool) → cond b (made (nest es os)) (Err (Mismatch at)) ≡ made m → m.entries ≡ es
    by_test true e = ap (λ (k : Nest). k.entries) (sym (sames (nest es os) m e))
    by_test false e = never (Mismatch at) m e

literal_inside : (at : ℕ) (es : List Entry) (o : Open) (os : List Open) (m : Nest) → step at (nest es (o ∷ os)) literal
    ≡ Ok m → m.within ≡ o ∷ os
unfolding step
literal_inside at es o os m e =
    ap (λ (k : Nest). k.within) (sym (sames (nest es (o ∷ os)) m (rw (not_zero (length os)) at e)))

told_inside : (at : ℕ) (es : List Entry) (o : Open) (os : List Open) (b : Bool) (m : Nest) →
    step at (nest es (o ∷ os)) (characters b) ≡ Ok m → m.within ≡ o ∷ os
unfolding step
told_inside at es o os b m e =
    ap (λ (k : Nest). k.within) (sym (sames (nest es (o ∷ os)) m (rw (not_zero (length os)) at e)))

pub opens_is : (at : ℕ) (n m : Nest) (name : List ℕ) (ps : List (List ℕ × List ℕ)) (c : Bool) →
    step at n (opens name ps c) ≡ Ok m → opened at n name ps c ≡ m
unfolding step
opens_is at n m name ps c e = by_fault (start_fault at (length n.within) (length n.entries)) e
  where
    by_fault : (o : Option TextRefusal) → option_map_or Err o (made (opened at n name ps c)) ≡ made m →
        opened at n name ps c ≡ m
    by_fault None e = sames (opened at n name ps c) m e
    by_fault (Some f) e = never f m e

second_root : (at : ℕ) (x : Entry) (es : List Entry) (m : Nest) (name : List ℕ) (ps : List (List ℕ × List ℕ))
    (c : Bool) → step at (nest (x ∷ es) []) (opens name ps c) ≡ Ok m → ⊥
unfolding step start_fault
second_root at x es m name ps c e = never (Syntax at) m (rw (not_zero (length es)) at e)

closes_is : (at : ℕ) (es : List Entry) (o : Open) (os : List Open) (name : List ℕ) (m : Nest) →
    step at (nest es (o ∷ os)) (closes name) ≡ Ok m → (o.name ≡ name) × (m.within ≡ os)
unfolding step ended
closes_is at es o os name m e = by_test (bytes_eq o.name name) refl e
  where
    by_test : (b : Bool) → bytes_eq o.name name ≡ b → cond b (made (nest es os)) (Err (Mismatch at)) ≡ made m →
        (o.name ≡ name) × (m.within ≡ os)
    by_test true s e = ((bytes_eq-Decides o.name name).0 s, ap (λ (k : Nest). k.within) (sym (sames (nest es os) m e)))
    by_test false s e = never (Mismatch at) m e

-- the same where no element is open
pub literal_outside : (at : ℕ) (es : List Entry) (m : Nest) → step at (nest es []) literal ≡ Ok m → ⊥
unfolding step
literal_outside at es m e = never (Syntax at) m e

pub told_outside : (at : ℕ) (es : List Entry) (b : Bool) (m : Nest) → step at (nest es []) (characters b) ≡ Ok m →
    (b ≡ true) × (m ≡ nest es [])
unfolding step
told_outside at es true m e = (refl, sym (sames (nest es []) m e))
told_outside at es false m e = never (Syntax at) m e

pub closes_outside : (at : ℕ) (es : List Entry) (name : List ℕ) (m : Nest) →
    step at (nest es []) (closes name) ≡ Ok m → ⊥
unfolding step ended
closes_outside at es name m e = never (Mismatch at) m e

pub passed_is : (at : ℕ) (n m : Nest) → step at n passed ≡ Ok m → m ≡ n
unfolding step
passed_is at n m e = sym (sames n m e)

deep_fault : (at depth count : ℕ) → DEPTH ≤ depth → start_fault at depth count ≡ None → ⊥
unfolding start_fault
deep_fault at depth count le e = by_tests (eqb depth 0 && not (eqb count 0)) (leb DEPTH depth) (leb ELEMENTS count)
    (le-leb DEPTH depth le) e
  where
    by_tests : (s d m : Bool) → d ≡ true →
        cond s (Some (Syntax at)) (cond d (Some (Deep at)) (cond m (Some (Many at)) None)) ≡ None → ⊥
    by_tests true d m h e = cc
    by_tests false true m h e = cc
    by_tests false false m h e = cc

-- where a start tag is taken, there is room for one more
opens_room : (at : ℕ) (n m : Nest) (name : List ℕ) (ps : List (List ℕ × List ℕ)) (c : Bool) →
    step at n (opens name ps c) ≡ Ok m → length n.within < DEPTH
unfolding step
opens_room at n m name ps c e = by_fault (start_fault at (length n.within) (length n.entries)) refl e
  where
    by_fault : (o : Option TextRefusal) → start_fault at (length n.within) (length n.entries) ≡ o →
        option_map_or Err o (made (opened at n name ps c)) ≡ made m → length n.within < DEPTH
    by_fault (Some f) o e = absurd cc
    by_fault None o e = elim (cases_lt (length n.within) DEPTH) [
      | inl lt ↦ lt
      | inr le ↦ absurd (deep_fault at (length n.within) (length n.entries) le o)
    ]

-- ---- what closes the open elements, one piece earlier

child_at_once : (deep : ℕ) (o : Open) (os : List Open) (name : List ℕ) (ps : List (List ℕ × List ℕ)) (ss : List Shape) →
    length (o ∷ os) < DEPTH → deep + length (o ∷ os) ≡ DEPTH → Left (o ∷ os) ss →
    Closes deep (o ∷ os) (opens name ps true ∷ ss)
child_at_once zero o os name ps ss room fits h = absurd (omega arith)
child_at_once (suc deep) o os name ps ss room fits h = one_child (suc deep) o os (opens name ps true ∷ []) ss
    (at_once deep name ps) (h (suc deep) fits)

child_with_content : (deep : ℕ) (o new : Open) (os : List Open) (name : List ℕ) (ps : List (List ℕ × List ℕ))
    (ss : List Shape) → new.name ≡ name → length (o ∷ os) < DEPTH → deep + length (o ∷ os) ≡ DEPTH →
    Left (new ∷ o ∷ os) ss →
    Closes deep (o ∷ os) (opens name ps false ∷ ss)
child_with_content zero o new os name ps ss same room fits h = absurd (omega arith)
child_with_content (suc deep) o new os name ps ss same room fits h = full_child deep o new os name ps ss same
    (h deep (omega (arith, fits)))

pub back : (at : ℕ) (x : Entry) (es : List Entry) (within : List Open) (s : Shape) (m : Nest) (ss : List Shape) →
    step at (nest (x ∷ es) within) s ≡ Ok m → Left m.within ss → Left within (s ∷ ss)
back at x es [] passed m ss e h deep fits =
    (subst (λ (k : Nest). Left k.within ss) (passed_is at (nest (x ∷ es) []) m e) h) deep fits
back at x es (o ∷ os) passed m ss e h deep fits = more_content deep o os passed ss (λ content is. pass deep content is)
    ((subst (λ (k : Nest). Left k.within ss) (passed_is at (nest (x ∷ es) (o ∷ os)) m e) h) deep fits)
back at x es [] literal m ss e h deep fits = absurd (literal_outside at (x ∷ es) m e)
back at x es (o ∷ os) literal m ss e h deep fits = more_content deep o os literal ss
    (λ content is. data_section deep content is)
    ((subst (λ (w : List Open). Left w ss) (literal_inside at (x ∷ es) o os m e) h) deep fits)
back at x es [] (characters true) m ss e h deep fits =
    (subst (λ (k : Nest). Left k.within ss) (told_outside at (x ∷ es) true m e).1 h) deep fits
back at x es [] (characters false) m ss e h deep fits = absurd (false≢true (told_outside at (x ∷ es) false m e).0)
back at x es (o ∷ os) (characters b) m ss e h deep fits = more_content deep o os (characters b) ss
    (λ content is. text deep b content is) ((subst (λ (w : List Open). Left w ss) (told_inside at (x ∷ es) o os b m e)
    h) deep fits)
back at x es [] (opens name ps c) m ss e h deep fits = absurd (second_root at x es m name ps c e)
back at x es (o ∷ os) (opens name ps true) m ss e h deep fits =
    let same = ap (λ (k : Nest). k.within) (sym (opens_is at (nest (x ∷ es) (o ∷ os)) m name ps true e)) in
    child_at_once deep o os name ps ss (opens_room at (nest (x ∷ es) (o ∷ os)) m name ps true e) fits
    (subst (λ (w : List Open). Left w ss) same h)
back at x es (o ∷ os) (opens name ps false) m ss e h deep fits =
    let same = ap (λ (k : Nest). k.within) (sym (opens_is at (nest (x ∷ es) (o ∷ os)) m name ps false e)) in
    child_with_content deep o (record { at = at; number = length (x ∷ es); name = name }) os name ps ss refl
    (opens_room at (nest (x ∷ es) (o ∷ os)) m name ps false e) fits (subst (λ (w : List Open). Left w ss) same h)
back at x es [] (closes name) m ss e h deep fits = absurd (closes_outside at (x ∷ es) name m e)
back at x es (o ∷ os) (closes name) m ss e h deep fits =
    let is = closes_is at (x ∷ es) o os name m e in (
      [],
      ss,
      none deep,
      ap (λ (n : List ℕ). closes n ∷ ss) (sym is.0),
      (subst (λ (w : List Open). Left w ss) is.1 h)
          (suc deep) (omega (arith, fits)),
    )
