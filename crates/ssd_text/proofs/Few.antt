-- A text has at most so many elements.
use Rattle.std.proofs.Common.{◌≡◌, ℕ, ◌+◌, ◌<◌, ◌≤◌, Bool, true, false, not, ◌&&◌, cond, eqb, leb, List, [], ◌∷◌}
use Rattle.std.proofs.Common.{length, Option, Some, None, Result, Ok, Err, refl, sym, ap, subst, inl, inr, arith}
use Rattle.std.specs.Option.{option_map_or}
use Rattle.std.specs.Str.{bytes_eq}
use Rattle.std.proofs.lemmas.List.{length-append}
use Rattle.std.proofs.lemmas.Bool.{cases_lt, le-leb}
use Rattle.ssd_text.specs.declared.refusal.TextRefusal.{TextRefusal}
use Rattle.ssd_text.specs.declared.refusal.TextRefusal.TheVariants.{Syntax, Deep, Many, Mismatch}
use Rattle.ssd_text.specs.Grammar.{Piece, spelling}
use Rattle.ssd_text.specs.Nesting.{innermost, Entry, Open, Nest, Shape, shape, passed, literal, characters, opens}
use Rattle.ssd_text.specs.Nesting.{closes, opened, ended, start_fault, step, at_end, Goes, HasOutcome, nothing}
use Rattle.ssd_text.specs.declared.limits.TheConstants.{DEPTH, ELEMENTS}

abbrev pub made : Nest → Result Nest TextRefusal
made n = Ok n

pub tested : (b : Bool) (f : TextRefusal) (n m : Nest) → cond b (Err f) (made n) ≡ made m → n ≡ m
tested true f n m e = absurd cc
tested false f n m e = cc

pub sames : (n m : Nest) → made n ≡ made m → n ≡ m
sames n m e = cc

pub matched : (b : Bool) (f : TextRefusal) (n m : Nest) → cond b (made n) (Err f) ≡ made m → n ≡ m
matched true f n m e = cc
matched false f n m e = absurd cc

fault_at_most : (at depth count : ℕ) → ELEMENTS ≤ count → start_fault at depth count ≡ None → ⊥
unfolding start_fault
fault_at_most at depth count le e = by_tests (eqb depth 0 && not (eqb count 0)) (leb DEPTH depth) (leb ELEMENTS count)
    (le-leb ELEMENTS count le) e
  where
    by_tests : (s d m : Bool) → m ≡ true →
        cond s (Some (Syntax at)) (cond d (Some (Deep at)) (cond m (Some (Many at)) None)) ≡ None → ⊥
    by_tests true d m h e = cc
    by_tests false true m h e = cc
    by_tests false false true h e = cc
    by_tests false false false h e = cc

opens_few : (at : ℕ) (n m : Nest) (name : List ℕ) (ps : List (List ℕ × List ℕ)) (c : Bool) (o : Option TextRefusal) →
    start_fault at (length n.within) (length n.entries) ≡ o → option_map_or Err o (made (opened at n name ps c))
    ≡ made m → length m.entries ≤ ELEMENTS
opens_few at n m name ps c (Some f) o e = absurd cc
opens_few at n m name ps c None o e =
    elim (cases_lt (length n.entries) ELEMENTS) [
      | inl lt ↦
          let same = ap (λ (k : Nest). length k.entries) (sames (opened at n name ps c) m e) in
          omega (
            arith,
            same,
            length-append n.entries (record {
              at = at;
              parent = innermost n.within;
              name = name;
              attributes = ps;
            } ∷ []),
          )
      | inr le ↦ absurd (fault_at_most at (length n.within) (length n.entries) le o)
    ]

pub ended_few : (at : ℕ) (entries : List Entry) (within : List Open) (name : List ℕ) (m : Nest) →
    ended at entries within name ≡ Ok m → entries ≡ m.entries
unfolding ended
ended_few at entries [] name m e = absurd cc
ended_few at entries (o ∷ os) name m e = ap (λ (k : Nest). k.entries) (matched (bytes_eq o.name name) (Mismatch at)
    (record { entries = entries; within = os }) m e)

step_few : (at : ℕ) (n m : Nest) (s : Shape) → step at n s ≡ Ok m → length n.entries ≤ ELEMENTS →
    length m.entries ≤ ELEMENTS
unfolding step
step_few at n m passed e few = subst (λ (k : Nest). length k.entries ≤ ELEMENTS) (sames n m e) few
step_few at n m literal e few = subst (λ (k : Nest). length k.entries ≤ ELEMENTS) (tested (eqb (length n.within) 0)
    (Syntax at) n m e) few
step_few at n m (characters b) e few = subst (λ (k : Nest). length k.entries ≤ ELEMENTS)
    (tested (eqb (length n.within) 0 && not b) (Syntax at) n m e) few
step_few at n m (opens name ps c) e few =
    opens_few at n m name ps c (start_fault at (length n.within) (length n.entries)) refl e
step_few at n m (closes name) e few = subst (λ (k : List Entry). length k ≤ ELEMENTS)
    (ended_few at n.entries n.within name m e) few

end_few : (at : ℕ) (entries : List Entry) (within : List Open) (es : List Entry) → Ok es ≡ at_end at entries within →
    length entries ≤ ELEMENTS → length es ≤ ELEMENTS
unfolding at_end
end_few at [] [] es e few = absurd cc
end_few at (x ∷ xs) [] es e few = subst (λ (k : List Entry). length k ≤ ELEMENTS) (sym (ok_same es (x ∷ xs) e)) few
  where
    ok_same : (xs ys : List Entry) → ◌≡◌ {A = Result (List Entry) TextRefusal} (Ok xs) (Ok ys) → xs ≡ ys
    ok_same xs ys e = cc
end_few at [] (o ∷ os) es e few = absurd cc
end_few at (x ∷ xs) (o ∷ os) es e few = absurd cc

goes_few : (ps : List Piece) (at : ℕ) (n : Nest) (text : List ℕ) (es : List Entry) → Goes at n text ps (Ok es) →
    length n.entries ≤ ELEMENTS → length es ≤ ELEMENTS
goes_few [] at n text es (inl h) few = end_few at n.entries n.within es h.1 few
goes_few [] at n text es (inr h) few = absurd (ok_err es h.1 h.3)
  where
    ok_err : (xs : List Entry) (f : TextRefusal) → ◌≡◌ {A = Result (List Entry) TextRefusal} (Ok xs) (Err f) → ⊥
    ok_err xs f e = cc
goes_few (p ∷ ps) at n text es h few = goes_few ps (at + length (spelling p)) h.1 h.0 es h.4
    (step_few at n h.1 (shape p) h.3 few)

pub told_few : (at : ℕ) (text : List ℕ) (es : List Entry) → HasOutcome at nothing text (Ok es) → length es ≤ ELEMENTS
told_few at text es h = goes_few h.0 at nothing text es h.1 (omega arith)

end_some : (at : ℕ) (entries : List Entry) (within : List Open) (es : List Entry) → Ok es ≡ at_end at entries within →
    0 < length es
unfolding at_end
end_some at [] [] es e = absurd cc
end_some at (x ∷ xs) [] es e = subst (λ (k : List Entry). 0 < length k) (sym (ok_same es (x ∷ xs) e)) (omega arith)
  where
    ok_same : (xs ys : List Entry) → ◌≡◌ {A = Result (List Entry) TextRefusal} (Ok xs) (Ok ys) → xs ≡ ys
    ok_same xs ys e = cc
end_some at [] (o ∷ os) es e = absurd cc
end_some at (x ∷ xs) (o ∷ os) es e = absurd cc

goes_some : (ps : List Piece) (at : ℕ) (n : Nest) (text : List ℕ) (es : List Entry) → Goes at n text ps (Ok es) →
    0 < length es
goes_some [] at n text es (inl h) = end_some at n.entries n.within es h.1
goes_some [] at n text es (inr h) = absurd (ok_err es h.1 h.3)
  where
    ok_err : (xs : List Entry) (f : TextRefusal) → ◌≡◌ {A = Result (List Entry) TextRefusal} (Ok xs) (Err f) → ⊥
    ok_err xs f e = cc
goes_some (p ∷ ps) at n text es h = goes_some ps (at + length (spelling p)) h.1 h.0 es h.4

pub told_some : (at : ℕ) (text : List ℕ) (es : List Entry) → HasOutcome at nothing text (Ok es) → 0 < length es
told_some at text es h = goes_some h.0 at nothing text es h.1
