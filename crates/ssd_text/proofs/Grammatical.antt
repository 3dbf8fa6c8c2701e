-- An accepted text is a document.
use Rattle.std.proofs.Common.{◌≡◌, ℕ, ◌+◌, ◌≤◌, Bool, true, false, cond, eqb, not, ◌&&◌, List, [], ◌∷◌, ◌++◌, length}
use Rattle.std.proofs.Common.{drop, map, count_by, None, Result, Ok, Err, refl, sym, ap, subst, ◌∙◌, append_assoc, inl}
use Rattle.std.proofs.Common.{inr, arith}
use Rattle.std.specs.Str.Lossy.{utf8_valid_len}
use Rattle.std.proofs.lemmas.List.{length-append}
use Rattle.std.proofs.lemmas.List.Sums.{sum_by-cons}
use Rattle.std.proofs.lemmas.Bool.{false≢true}
use Rattle.ssd_text.specs.declared.refusal.TextRefusal.{TextRefusal}
use Rattle.ssd_text.specs.declared.refusal.TextRefusal.TheVariants.{Encoding, Syntax, Unclosed}
use Rattle.ssd_text.specs.Grammar.{Piece, spelling}
use Rattle.ssd_text.specs.Nesting.{innermost, Entry, Open, Nest, Shape, shape, passed, literal, characters, opens}
use Rattle.ssd_text.specs.Nesting.{closes, step, at_end, Goes, Spells, mark_len, nothing}
use Rattle.ssd_text.specs.Document.{IsCut, IsBeside, IsElement, at_once, with_content, begins_element, SpellsDocument}
use Rattle.ssd_text.proofs.Few.{tested, ended_few, told_few}
use Rattle.ssd_text.specs.declared.limits.TheConstants.{DEPTH, ELEMENTS}
use Rattle.ssd_text.proofs.Closing.{Left, nest, literal_same, told_same, closes_entries, opens_is, literal_outside}
use Rattle.ssd_text.proofs.Closing.{told_outside, closes_outside, passed_is, back}

-- ---- all pieces

pub kept : (at : ℕ) (x : Entry) (es : List Entry) (within : List Open) (s : Shape) (m : Nest) →
    step at (nest (x ∷ es) within) s ≡ Ok m → (ys : List Entry) × (m.entries ≡ x ∷ ys)
kept at x es within passed m e = (es, ap (λ (k : Nest). k.entries) (passed_is at (nest (x ∷ es) within) m e))
kept at x es [] literal m e = absurd (literal_outside at (x ∷ es) m e)
kept at x es (o ∷ os) literal m e = (es, ap (λ (k : Nest). k.entries) (literal_same at (x ∷ es) o os m e))
kept at x es [] (characters b) m e = (es, ap (λ (k : Nest). k.entries) (told_outside at (x ∷ es) b m e).1)
kept at x es (o ∷ os) (characters b) m e = (es, ap (λ (k : Nest). k.entries) (told_same at (x ∷ es) o os b m e))
kept at x es within (opens name ps c) m e = (
  es ++ (record { at = at; parent = innermost within; name = name; attributes = ps } ∷ []),
  ap (λ (k : Nest). k.entries) (sym (opens_is at (nest (x ∷ es) within) m name ps c e)),
)
kept at x es [] (closes name) m e = absurd (closes_outside at (x ∷ es) name m e)
kept at x es (o ∷ os) (closes name) m e = (es, closes_entries at (x ∷ es) o os name m e)

failed_end : {A : Type 0} (tree : List Entry) (f : TextRefusal) → ◌≡◌ {A = Result (List Entry) TextRefusal}
    (Ok tree) (Err f) → A
failed_end tree f e = absurd cc

left : (ps : List Piece) (at : ℕ) (x : Entry) (es : List Entry) (within : List Open) (bytes : List ℕ)
    (tree : List Entry) → Goes at (nest (x ∷ es) within) bytes ps (Ok tree) → Left within (map shape ps)
unfolding at_end
left [] at x es [] bytes tree h deep fits = tt
left [] at x es (o ∷ os) bytes tree (inl h) deep fits = failed_end tree (Unclosed o.at) h.1
left [] at x es (o ∷ os) bytes tree (inr h) deep fits = failed_end tree h.1 h.3
left (p ∷ ps) at x es within bytes tree h deep fits =
    let k = kept at x es within (shape p) h.1 h.3 in
    let goes = subst (λ (ys : List Entry). Goes (at + length (spelling p)) (nest ys h.1.within) h.0 ps
    (Ok tree)) k.1 h.4 in
    back at x es within (shape p) h.1 (map shape ps) h.3 (left ps (at + length (spelling p)) x k.0 h.1.within h.0 tree
    goes) deep fits

-- a document but for the count of its elements
abbrev IsRooted : List Shape → Type 0
IsRooted ss = (before : List Shape) × (root : List Shape) × (behind : List Shape) × (ss ≡ before ++ (root ++ behind))
    × IsBeside before × IsElement DEPTH root × IsBeside behind

first_root : (at : ℕ) (name : List ℕ) (qs : List (List ℕ × List ℕ)) (c : Bool) (m : Nest) (ps : List Piece) (later : ℕ)
    (rest : List ℕ) (tree : List Entry) → step at nothing (opens name qs c) ≡ Ok m → Goes later m rest ps (Ok tree) →
    IsRooted (opens name qs c ∷ map shape ps)
first_root at name qs true m ps later rest tree e goes =
    let same = sym (opens_is at nothing m name qs true e) in
    let after = left ps later (record { at = at; parent = None; name = name; attributes = qs }) [] [] rest tree
    (subst (λ (k : Nest). Goes later k rest ps (Ok tree)) same goes) DEPTH (omega arith) in
    ([], opens name qs true ∷ [], map shape ps, refl, tt, at_once 63 name qs, after)
first_root at name qs false m ps later rest tree e goes =
    let same = sym (opens_is at nothing m name qs false e) in
    let after = left ps later (record { at = at; parent = None; name = name; attributes = qs }) [] (record {
      at = at;
      number = 0;
      name = name;
    } ∷ []) rest tree (subst (λ (k : Nest). Goes later k rest ps (Ok tree)) same goes) 63
    (omega arith) in
    let whole : opens name qs false ∷ map shape ps ≡ (opens name qs false ∷ (after.0 ++ (closes name ∷ [])))
    ++ after.1 = ap (λ (z : List Shape). opens name qs false ∷ z) (after.3
    ∙ sym (append_assoc after.0 (closes name ∷ []) after.1)) in (
      [],
      opens name qs false ∷ (after.0 ++ (closes name ∷ [])),
      after.1,
      whole,
      tt,
      with_content 63 name qs after.0
          after.2,
      after.4,
    )

beside : (s : Shape) (ss : List Shape) → IsBeside (s ∷ []) → IsRooted ss → IsRooted (s ∷ ss)
beside passed ss is d = (passed ∷ d.0, d.1, d.2, ap (λ (z : List Shape). passed ∷ z) d.3, d.4, d.5, d.6)
beside (characters true) ss is d = (
  characters true ∷ d.0,
  d.1,
  d.2,
  ap (λ (z : List Shape). characters true ∷ z) d.3,
  d.4,
  d.5,
  d.6,
)
beside (characters false) ss is d = absurd is
beside literal ss is d = absurd is
beside (opens name qs c) ss is d = absurd is
beside (closes name) ss is d = absurd is

-- What is read nests as a document.
is_rooted : (ps : List Piece) (at : ℕ) (bytes : List ℕ) (tree : List Entry) → Goes at nothing bytes ps (Ok tree) →
    IsRooted (map shape ps)
unfolding at_end
is_rooted [] at bytes tree (inl h) = failed_end tree (Syntax at) h.1
is_rooted [] at bytes tree (inr h) = failed_end tree h.1 h.3
is_rooted (p ∷ ps) at bytes tree h = by_shape (shape p) h.3
    (λ same. is_rooted ps (at + length (spelling p)) h.0 tree
    (subst (λ (k : Nest). Goes (at + length (spelling p)) k h.0 ps (Ok tree)) same h.4))
    (λ name qs c e. first_root at name qs c h.1 ps (at + length (spelling p)) h.0 tree e h.4)
  where
    by_shape : (s : Shape) → step at nothing s ≡ Ok h.1 → (h.1 ≡ nothing → IsRooted (map shape ps)) →
        ((name : List ℕ) (qs : List (List ℕ × List ℕ)) (c : Bool) → step at nothing (opens name qs c) ≡ Ok h.1 →
        IsRooted (opens name qs c ∷ map shape ps)) → IsRooted (s ∷ map shape ps)
    by_shape passed e rest root = beside passed (map shape ps) tt (rest (passed_is at nothing h.1 e))
    by_shape literal e rest root = absurd (literal_outside at [] h.1 e)
    by_shape (characters true) e rest root = beside (characters true) (map shape ps) tt
        (rest (told_outside at [] true h.1 e).1)
    by_shape (characters false) e rest root = absurd (false≢true (told_outside at [] false h.1 e).0)
    by_shape (opens name qs c) e rest root = root name qs c e
    by_shape (closes name) e rest root = absurd (closes_outside at [] name h.1 e)

-- ---- how many elements there are

pub one_in_front : (s : Shape) (ss : List Shape) → count_by begins_element (s ∷ ss) ≡ cond (begins_element s) 1 0
    + count_by begins_element ss
one_in_front s ss = sum_by-cons (λ x. cond (begins_element x) 1 0) s ss

pub step_count : (at : ℕ) (n m : Nest) (s : Shape) → step at n s ≡ Ok m → length m.entries ≡ length n.entries + cond
    (begins_element s) 1 0
unfolding step
step_count at n m passed e = omega (arith, ap (λ (k : Nest). length k.entries) (passed_is at n m e))
step_count at n m literal e =
    omega (arith, ap (λ (k : Nest). length k.entries) (tested (eqb (length n.within) 0) (Syntax at) n m e))
step_count at n m (characters b) e =
    omega (arith, ap (λ (k : Nest). length k.entries) (tested (eqb (length n.within) 0 && not b) (Syntax at) n m e))
step_count at n m (opens name ps c) e = omega (
  arith,
  ap (λ (k : Nest). length k.entries) (opens_is at n m name ps c e),
  length-append n.entries (record { at = at; parent = innermost n.within; name = name; attributes = ps } ∷ []),
)
step_count at n m (closes name) e =
    omega (arith, ap (λ (k : List Entry). length k) (ended_few at n.entries n.within name m e))

end_count : (at : ℕ) (entries : List Entry) (within : List Open) (es : List Entry) → Ok es ≡ at_end at entries within →
    length es ≡ length entries
unfolding at_end
end_count at [] [] es e = absurd cc
end_count at (x ∷ xs) [] es e = ap (λ (k : List Entry). length k) (ok_same es (x ∷ xs) e)
  where
    ok_same : (xs ys : List Entry) → ◌≡◌ {A = Result (List Entry) TextRefusal} (Ok xs) (Ok ys) → xs ≡ ys
    ok_same xs ys e = cc
end_count at [] (o ∷ os) es e = absurd cc
end_count at (x ∷ xs) (o ∷ os) es e = absurd cc

goes_count : (ps : List Piece) (at : ℕ) (n : Nest) (bytes : List ℕ) (tree : List Entry) → Goes at n bytes ps (Ok tree) →
    length tree ≡ length n.entries + count_by begins_element (map shape ps)
goes_count [] at n bytes tree (inl h) = omega (arith, end_count at n.entries n.within tree h.1)
goes_count [] at n bytes tree (inr h) = failed_end tree h.1 h.3
goes_count (p ∷ ps) at n bytes tree h = omega (
  arith,
  goes_count ps (at + length (spelling p)) h.1 h.0 tree h.4,
  step_count at n h.1 (shape p) h.3,
  one_in_front (shape p) (map shape ps),
)

goes_cut : (ps : List Piece) (at : ℕ) (n : Nest) (bytes : List ℕ) (tree : List Entry) → Goes at n bytes ps (Ok tree) →
    IsCut bytes ps
goes_cut [] at n bytes tree (inl h) = h.0
goes_cut [] at n bytes tree (inr h) = failed_end tree h.1 h.3
goes_cut (p ∷ ps) at n bytes tree h = (h.0, h.2, goes_cut ps (at + length (spelling p)) h.1 h.0 tree h.4)

pub accepted : (bytes : List ℕ) (tree : List Entry) → Spells bytes (Ok tree) → SpellsDocument bytes
accepted bytes tree (inl h) =
    let ps = h.1.0 in
    let rest = drop (mark_len bytes) bytes in
    let rooted = is_rooted ps (mark_len bytes) rest tree h.1.1 in
    let count : count_by begins_element (map shape ps) ≤ ELEMENTS =
    omega (arith, goes_count ps (mark_len bytes) nothing rest tree h.1.1, told_few (mark_len bytes) rest tree h.1) in (
      h.0,
      ps,
      goes_cut ps (mark_len bytes) nothing rest tree h.1.1,
      (
        rooted.0,
        rooted.1,
        rooted.2,
        rooted.3,
        rooted.4,
        rooted.5,
        rooted.6,
        count,
      ),
    )
accepted bytes tree (inr h) = failed_end tree (Encoding (utf8_valid_len bytes)) h.1
