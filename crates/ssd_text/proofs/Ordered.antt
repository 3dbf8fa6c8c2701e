-- The elements of a text stand in order.
use Rattle.std.proofs.Common.{◌≡◌, ℕ, suc, ◌+◌, ◌<◌, ◌≤◌, Bool, true, false, ◌&&◌, not, eqb, List, [], ◌∷◌, ◌++◌}
use Rattle.std.proofs.Common.{length, Option, Some, None, IsSomeAnd, Result, Ok, Err, refl, sym, ap, subst, ◌∙◌, inl}
use Rattle.std.proofs.Common.{inr, arith}
use Rattle.std.specs.Option.{option_map_or}
use Rattle.std.specs.Str.{bytes_eq}
use Rattle.std.proofs.lemmas.List.{length-append, get_or_append_left, get_or_past}
use Rattle.std.proofs.Math.Seq.{get_or-append_seam}
use Rattle.std.proofs.lemmas.Bool.{cases_lt}
use Rattle.ssd_text.specs.declared.refusal.TextRefusal.{TextRefusal}
use Rattle.ssd_text.specs.declared.refusal.TextRefusal.TheVariants.{Syntax, Mismatch, Encoding}
use Rattle.std.specs.Str.Lossy.{utf8_valid_len}
use Rattle.ssd_text.specs.Grammar.{Piece, spelling}
use Rattle.ssd_text.specs.Nesting.{innermost, Entry, Open, Nest, Shape, shape, passed, literal, characters, opens}
use Rattle.ssd_text.specs.Nesting.{closes, opened, ended, start_fault, step, at_end, no_entry, entry_at, IsInOrder}
use Rattle.ssd_text.specs.Nesting.{Goes, HasOutcome, Spells, nothing, mark_len}
use Rattle.ssd_text.proofs.Few.{made, tested, sames, matched}

-- each open element of a list is behind the one that holds it, and what came behind it stands below it
abbrev Holds : List Entry → List Open → ℕ → Type 0
Holds es [] top = Unit {0}
Holds es (o ∷ os) top = (o.number < top) × ((k : ℕ) → o.number < k → k < length es →
    IsSomeAnd (entry_at es k).parent (λ q. o.number ≤ q)) × Holds es os o.number

abbrev IsSound : List Entry → List Open → Type 0
IsSound es within = IsInOrder es × Holds es within (length es)

old_at : (es : List Entry) (e : Entry) (k : ℕ) → k < length es → entry_at (es ++ (e ∷ [])) k ≡ entry_at es k
old_at es e k lt = get_or_append_left es (e ∷ []) no_entry k lt

new_at : (es : List Entry) (e : Entry) (k : ℕ) → k ≡ length es → entry_at (es ++ (e ∷ [])) k ≡ e
new_at es e k same = ap (λ (i : ℕ). entry_at (es ++ (e ∷ [])) i) same ∙ get_or-append_seam es e [] no_entry

past_at : (es : List Entry) (e : Entry) (k : ℕ) → length es < k → entry_at (es ++ (e ∷ [])) k ≡ no_entry
past_at es e k lt = get_or_past (es ++ (e ∷ [])) k no_entry (omega (arith, length-append es (e ∷ [])))

-- what came behind an open element stands below it, with one element more
below_more : (es : List Entry) (e : Entry) (n q : ℕ) → e.parent ≡ Some q → n ≤ q → ((k : ℕ) → n < k → k < length es →
    IsSomeAnd (entry_at es k).parent (λ q. n ≤ q)) → (k : ℕ) → n < k → k < length (es ++ (e ∷ [])) →
    IsSomeAnd (entry_at (es ++ (e ∷ [])) k).parent (λ q. n ≤ q)
below_more es e n q parent le old k above below =
    elim (cases_lt k (length es)) [
      | inl lt ↦ subst (λ (x : Entry). IsSomeAnd x.parent (λ q. n ≤ q)) (sym (old_at es e k lt)) (old k above lt)
      | inr ge ↦
          let same : k ≡ length es = omega (arith, length-append es (e ∷ [])) in
          let is = ap (λ (x : Entry). x.parent) (new_at es e k same) ∙ parent in
          subst (λ (o : Option ℕ). IsSomeAnd o (λ q. n ≤ q)) (sym is) le
    ]

holds_more : (es : List Entry) (e : Entry) (within : List Open) (top q : ℕ) → e.parent ≡ Some q → top ≤ suc q →
    Holds es within top → Holds (es ++ (e ∷ [])) within top
holds_more es e [] top q parent le h = tt
holds_more es e (o ∷ os) top q parent le h = (
  h.0,
  below_more es e o.number q parent (omega (arith, h.0)) h.1,
  holds_more es e os o.number q parent (omega (arith, h.0)) h.2,
)

-- the last element, where one stands around it
last_child : (es : List Entry) (o : Open) (os : List Open) (p k : ℕ) → Some o.number ≡ Some p →
    Holds es (o ∷ os) (length es) → (p < length es) × ((k : ℕ) → p < k → k < length es →
    IsSomeAnd (entry_at es k).parent (λ q. p ≤ q))
last_child es o os p k e h =
    let same : o.number ≡ p = cc in
    subst (λ (n : ℕ). (n < length es) × ((k : ℕ) → n < k → k < length es →
    IsSomeAnd (entry_at es k).parent (λ q. n ≤ q))) same (h.0, h.1)

last_any : (es : List Entry) (within : List Open) (p : ℕ) → innermost within ≡ Some p → Holds es within (length es) →
    (p < length es) × ((k : ℕ) → p < k → k < length es → IsSomeAnd (entry_at es k).parent (λ q. p ≤ q))
last_any es [] p e h = absurd cc
last_any es (o ∷ os) p e h = last_child es o os p 0 e h

-- one element more
order_more : (es : List Entry) (e : Entry) (within : List Open) → e.parent ≡ innermost within → IsSound es within →
    IsInOrder (es ++ (e ∷ []))
order_more es e within parent h j p is =
    elim (cases_lt j (length es)) [
      | inl lt ↦
          let old = h.0 j p (ap (λ (x : Entry). x.parent) (sym (old_at es e j lt)) ∙ is) in (
            old.0,
            λ k above below. subst (λ (x : Entry). IsSomeAnd x.parent (λ q. p ≤ q))
                (sym (old_at es e k (omega arith))) (old.1 k above below),
          )
      | inr ge ↦ elim (cases_lt (length es) j) [
        | inl gt ↦ absurd (none_some p (ap (λ (x : Entry). x.parent) (sym (past_at es e j gt)) ∙ is))
        | inr le ↦
            let same : j ≡ length es = omega arith in
            let last = last_any es within p (sym parent ∙ ap (λ (x : Entry). x.parent) (sym (new_at es e j same))
            ∙ is) h.1 in (
              omega (arith, last.0),
              λ k above below. subst (λ (x : Entry). IsSomeAnd x.parent (λ q. p ≤ q))
                  (sym (old_at es e k (omega arith))) (last.1 k above (omega arith)),
            )
      ]
    ]
  where
    none_some : (p : ℕ) → None ≡ Some p → ⊥
    none_some p e = cc

-- the open ones, with one element more
open_more : (es : List Entry) (e : Entry) (within : List Open) → e.parent ≡ innermost within →
    Holds es within (length es) → Holds (es ++ (e ∷ [])) within (length es)
open_more es e [] parent h = tt
open_more es e (o ∷ os) parent h = (
  h.0,
  below_more es e o.number o.number parent (omega arith) h.1,
  holds_more es e os o.number o.number parent (omega arith) h.2,
)

higher : (es : List Entry) (within : List Open) (low high : ℕ) → low ≤ high → Holds es within low → Holds es within high
higher es [] low high le h = tt
higher es (o ∷ os) low high le h = (omega (arith, h.0), h.1, h.2)

new_open : (es : List Entry) (e : Entry) (new : Open) (within : List Open) → new.number ≡ length es →
    Holds (es ++ (e ∷ [])) within (length es) → Holds (es ++ (e ∷ [])) (new ∷ within) (length (es ++ (e ∷ [])))
new_open es e new within number h =
    let len = length-append es (e ∷ []) in (
      omega (arith, len, number),
      λ k above below. absurd (omega (arith, len, number)),
      subst (λ (n : ℕ). Holds (es ++ (e ∷ [])) within n) (sym number) h,
    )

opens_sound : (at : ℕ) (n m : Nest) (name : List ℕ) (ps : List (List ℕ × List ℕ)) (c : Bool) →
    opened at n name ps c ≡ m → IsSound n.entries n.within → IsSound m.entries m.within
opens_sound at n m name ps true e h =
    let x : Entry = record { at = at; parent = innermost n.within; name = name; attributes = ps } in
    let more = order_more n.entries x n.within refl h in
    let len = length-append n.entries (x ∷ []) in
    subst (λ (k : Nest). IsSound k.entries k.within) e (
      more,
      higher (n.entries ++ (x ∷ [])) n.within (length n.entries)
          (length (n.entries ++ (x ∷ []))) (omega (arith, len)) (open_more n.entries x n.within refl h.1),
    )
opens_sound at n m name ps false e h =
    let x : Entry = record { at = at; parent = innermost n.within; name = name; attributes = ps } in
    let new : Open = record { at = at; number = length n.entries; name = name } in
    let more = order_more n.entries x n.within refl h in
    subst (λ (k : Nest). IsSound k.entries k.within) e (
      more,
      new_open n.entries x new n.within refl
          (open_more n.entries x n.within refl h.1),
    )

opens_step : (at : ℕ) (n m : Nest) (name : List ℕ) (ps : List (List ℕ × List ℕ)) (c : Bool) (o : Option TextRefusal) →
    option_map_or Err o (made (opened at n name ps c)) ≡ made m → IsSound n.entries n.within →
    IsSound m.entries m.within
opens_step at n m name ps c (Some f) e h = absurd cc
opens_step at n m name ps c None e h = opens_sound at n m name ps c (sames (opened at n name ps c) m e) h

ended_sound : (at : ℕ) (entries : List Entry) (within : List Open) (name : List ℕ) (m : Nest) →
    ended at entries within name ≡ Ok m → IsSound entries within → IsSound m.entries m.within
unfolding ended
ended_sound at entries [] name m e h = absurd cc
ended_sound at entries (o ∷ os) name m e h =
    let same = matched (bytes_eq o.name name) (Mismatch at) (record { entries = entries; within = os }) m e in
    subst (λ (k : Nest). IsSound k.entries k.within) same (
      h.0,
      higher entries os o.number (length entries)
          (omega (arith, h.1.0)) h.1.2,
    )

step_sound : (at : ℕ) (n m : Nest) (s : Shape) → step at n s ≡ Ok m → IsSound n.entries n.within →
    IsSound m.entries m.within
unfolding step
step_sound at n m passed e h = subst (λ (k : Nest). IsSound k.entries k.within) (sames n m e) h
step_sound at n m literal e h = subst (λ (k : Nest). IsSound k.entries k.within) (tested (eqb (length n.within) 0)
    (Syntax at) n m e) h
step_sound at n m (characters b) e h = subst (λ (k : Nest). IsSound k.entries k.within)
    (tested (eqb (length n.within) 0 && not b) (Syntax at) n m e) h
step_sound at n m (opens name ps c) e h = opens_step at n m name ps c (start_fault at (length n.within)
    (length n.entries)) e h
step_sound at n m (closes name) e h = ended_sound at n.entries n.within name m e h

end_order : (at : ℕ) (entries : List Entry) (within : List Open) (es : List Entry) → Ok es ≡ at_end at entries within →
    IsInOrder entries → IsInOrder es
unfolding at_end
end_order at [] [] es e h = absurd cc
end_order at (x ∷ xs) [] es e h = subst IsInOrder (ok_same (x ∷ xs) es (sym e)) h
  where
    ok_same : (xs ys : List Entry) → ◌≡◌ {A = Result (List Entry) TextRefusal} (Ok xs) (Ok ys) → xs ≡ ys
    ok_same xs ys e = cc
end_order at [] (o ∷ os) es e h = absurd cc
end_order at (x ∷ xs) (o ∷ os) es e h = absurd cc

failed : {A : Type 0} (tree : List Entry) (f : TextRefusal) → ◌≡◌ {A = Result (List Entry) TextRefusal}
    (Ok tree) (Err f) → A
failed tree f e = absurd cc

goes_order : (ps : List Piece) (at : ℕ) (n : Nest) (text : List ℕ) (es : List Entry) → Goes at n text ps (Ok es) →
    IsSound n.entries n.within → IsInOrder es
goes_order [] at n text es (inl h) sound = end_order at n.entries n.within es h.1 sound.0
goes_order [] at n text es (inr h) sound = failed es h.1 h.3
goes_order (p ∷ ps) at n text es h sound = goes_order ps (at + length (spelling p)) h.1 h.0 es h.4
    (step_sound at n h.1 (shape p) h.3 sound)

none_in_order : IsInOrder []
none_in_order j p is = absurd
    (none_some p (sym (ap (λ (x : Entry). x.parent) (get_or_past [] j no_entry (omega arith))) ∙ is))
  where
    none_some : (p : ℕ) → None ≡ Some p → ⊥
    none_some p e = cc

pub told_order : (at : ℕ) (text : List ℕ) (es : List Entry) → HasOutcome at nothing text (Ok es) → IsInOrder es
told_order at text es h = goes_order h.0 at nothing text es h.1 (none_in_order, tt)

pub read_order : (bytes : List ℕ) (tree : List Entry) → Spells bytes (Ok tree) → IsInOrder tree
read_order bytes tree (inl h) = told_order (mark_len bytes) _ tree h.1
read_order bytes tree (inr h) = failed tree (Encoding (utf8_valid_len bytes)) h.1
