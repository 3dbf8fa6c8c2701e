-- Steps of the nesting, and the list of open elements as the code keeps it.
use Rattle.std.proofs.Common.{◌≡◌, ℕ, ◌<◌, Bool, true, false, cond, not, ◌&&◌, eqb, List, [], ◌∷◌, ◌++◌, length, map}
use Rattle.std.proofs.Common.{reverse, Option, Some, None, Result, Ok, Err, refl, sym, ap, ◌∙◌, arith}
use Rattle.std.specs.Global.{Vec}
use Rattle.std.specs.Vec.{vec_len}
use Rattle.std.specs.Str.{bytes_eq}
use Rattle.std.proofs.lemmas.List.{nil_from_length, reverse-append, map_push, length-map, length-reverse}
use Rattle.ssd_text.specs.declared.refusal.TextRefusal.{TextRefusal}
use Rattle.ssd_text.specs.declared.refusal.TextRefusal.TheVariants.{Encoding, Syntax, Doctype, Deep, Mismatch}
use Rattle.ssd_text.specs.declared.refusal.TextRefusal.TheVariants.{Unclosed, Many, Memory}
use Rattle.ssd_text.specs.declared.nest.Open as code_open
use Rattle.ssd_text.specs.Nesting.{Entry, Open, Nest, passed, literal, characters, opens, closes, start_fault}
use Rattle.ssd_text.specs.Nesting.{innermost, opened, ended, step, at_end}
use Rattle.ssd_text.specs.Seen.{TellsOutcome, open_of, within_of, entry_of, entries_of}
use Rattle.ssd_text.specs.declared.tree.TreeElement.{TreeElement}

pub within_push : (os : List code_open.Open) (o : code_open.Open) →
    within_of (os ++ (o ∷ [])) ≡ open_of o ∷ within_of os
within_push os o = ap reverse (map_push open_of os o) ∙ reverse-append (map open_of os) (open_of o ∷ [])

pub within_len : (os : List code_open.Open) → length (within_of os) ≡ length os
within_len os = simp (length-reverse, length-map)

pub entries_len : (ns : List TreeElement) → length (entries_of ns) ≡ length ns
entries_len ns = simp length-map

-- ---- steps

pub starts_fault : (at : ℕ) (n : Nest) (name : List ℕ) (ps : List (List ℕ × List ℕ)) (c : Bool) (depth count : ℕ)
    (f : TextRefusal) → length n.within ≡ depth → length n.entries ≡ count → Some f ≡ start_fault at depth count →
    Err f ≡ step at n (opens name ps c)
unfolding step
starts_fault at n name ps c depth count f d k e = rw (d, k, ← e) refl

pub starts : (at : ℕ) (n : Nest) (name : List ℕ) (ps : List (List ℕ × List ℕ)) (c : Bool) (depth count : ℕ) →
    length n.within ≡ depth → length n.entries ≡ count → None ≡ start_fault at depth count →
    Ok (opened at n name ps c) ≡ step at n (opens name ps c)
unfolding step
starts at n name ps c depth count d k e = rw (d, k, ← e) refl

pub outside_literal : (at : ℕ) (n : Nest) → length n.within ≡ 0 → Err (Syntax at) ≡ step at n literal
unfolding step
outside_literal at n w = rw w refl

pub inside_literal : (at : ℕ) (n : Nest) → eqb (length n.within) 0 ≡ false → Ok n ≡ step at n literal
unfolding step
inside_literal at n w = rw w refl

pub outside_told : (at : ℕ) (n : Nest) → length n.within ≡ 0 → Err (Syntax at) ≡ step at n (characters false)
unfolding step
outside_told at n w = rw w refl

pub told_blank : (at : ℕ) (n : Nest) → Ok n ≡ step at n (characters true)
unfolding step
told_blank at n = by_test (eqb (length n.within) 0)
  where
    by_test : (b : Bool) → Ok n ≡ cond (b && false) (Err (Syntax at)) (Ok n)
    by_test true = refl
    by_test false = refl

pub inside_told : (at : ℕ) (n : Nest) (blank : Bool) → eqb (length n.within) 0 ≡ false →
    Ok n ≡ step at n (characters blank)
unfolding step
inside_told at n blank w = rw w refl

pub step_passed : (at : ℕ) (n : Nest) → Ok n ≡ step at n passed
unfolding step
step_passed at n = refl

-- an end tag where the list of open elements is known
pub ends_none : (at : ℕ) (n : Nest) (name : List ℕ) → n.within ≡ [] → Err (Mismatch at) ≡ step at n (closes name)
unfolding step ended
ends_none at n name w = rw w refl

pub ends_other : (at : ℕ) (n : Nest) (name : List ℕ) (o : Open) (os : List Open) → n.within ≡ o ∷ os →
    bytes_eq o.name name ≡ false → Err (Mismatch at) ≡ step at n (closes name)
unfolding step ended
ends_other at n name o os w e = rw (w, e) refl

pub ends_same : (at : ℕ) (n : Nest) (name : List ℕ) (o : Open) (os : List Open) → n.within ≡ o ∷ os →
    bytes_eq o.name name ≡ true → Ok (record { entries = n.entries; within = os }) ≡ step at n (closes name)
unfolding step ended
ends_same at n name o os w e = rw (w, e) refl

pub end_open : (at : ℕ) (es : List Entry) (within : List Open) (o : Open) (os : List Open) → within ≡ o ∷ os →
    Err (Unclosed o.at) ≡ at_end at es within
unfolding at_end
end_open at [] within o os w = rw w refl
end_open at (e ∷ es) within o os w = rw w refl

pub end_none : (at : ℕ) (es : List Entry) (within : List Open) → within ≡ [] → length es ≡ 0 →
    Err (Syntax at) ≡ at_end at es within
unfolding at_end
end_none at [] within w e = rw w refl
end_none at (x ∷ es) within w e = absurd (omega arith)

pub end_done : (at : ℕ) (es : List Entry) (within : List Open) → within ≡ [] → 0 < length es →
    Ok es ≡ at_end at es within
unfolding at_end
end_done at [] within w e = absurd (omega arith)
end_done at (x ∷ es) within w e = rw w refl

pub within_nil : (os : List code_open.Open) → length os ≡ 0 → within_of os ≡ []
within_nil os e = ap within_of (nil_from_length os e)

pub entries_push : (ns : List TreeElement) (n : TreeElement) →
    entries_of (ns ++ (n ∷ [])) ≡ entries_of ns ++ (entry_of n ∷ [])
entries_push ns n = map_push entry_of ns n

-- ---- what a call answers

pub answers_err : {X Y : Type 0} (view : X → Y) (f : TextRefusal) (P : Result Y TextRefusal → Type 0) → P (Err f) →
    TellsOutcome view (Err f) P
answers_err view (Encoding at) P h = h
answers_err view (Syntax at) P h = h
answers_err view (Doctype at) P h = h
answers_err view (Deep at) P h = h
answers_err view (Mismatch at) P h = h
answers_err view (Unclosed at) P h = h
answers_err view (Many at) P h = h
answers_err view Memory P h = tt

pub not_true : (b c : Bool) → c ≡ not b → c ≡ true → b ≡ false
not_true true c e f = absurd cc
not_true false c e f = refl

pub not_false : (b c : Bool) → c ≡ not b → c ≡ false → b ≡ true
not_false true c e f = refl
not_false false c e f = absurd cc

-- ---- what a start tag leaves

abbrev done : Nest → Result Nest TextRefusal
done n = Ok n

pub opened_at_once : (at : ℕ) (es fs : List Entry) (within : List Open) (name : List ℕ) (ps : List (List ℕ × List ℕ))
    (parent : Option ℕ) (c : Bool) → c ≡ true → fs ≡ es ++ (record {
      at = at;
      parent = parent;
      name = name;
      attributes =
          ps;
    } ∷ []) → parent ≡ innermost within → Ok (record { entries = fs; within = within }) ≡ done
    (opened at (record { entries = es; within = within }) name ps c)
opened_at_once at es fs within name ps parent c closed f p = rw (closed, f, p) refl

pub opened_to_close : (at : ℕ) (es fs : List Entry) (within now : List Open) (name : List ℕ)
    (ps : List (List ℕ × List ℕ)) (parent : Option ℕ) (number : ℕ) (c : Bool) → c ≡ false →
    fs ≡ es ++ (record { at = at; parent = parent; name = name; attributes = ps } ∷ []) → parent ≡ innermost within →
    number ≡ length es → now ≡ record { at = at; number = number; name = name } ∷ within →
    Ok (record { entries = fs; within = now }) ≡ done (opened at (record { entries = es; within = within }) name ps c)
opened_to_close at es fs within now name ps parent number c closed f p n w = rw (closed, w, f, p, n) refl

pub counted_within : (os : Vec code_open.Open) (b : Bool) → b ≡ eqb (vec_len os) 0 → b ≡ false →
    eqb (length (within_of os.items)) 0 ≡ false
counted_within os b e f = ap (λ (k : ℕ). eqb k 0) (within_len os.items ∙ sym os.ok.0) ∙ (sym e ∙ f)

-- from one property of an answer that is an error to another
pub answers_then : {X Y Z W : Type 0} (v : X → Y) (w : Z → W) (f : TextRefusal) (P : Result Y TextRefusal →
    Type 0) (Q : Result W TextRefusal → Type 0) → (P (Err f) → Q (Err f)) → TellsOutcome v (Err f) P →
    TellsOutcome w (Err f) Q
answers_then v w (Encoding at) P Q g h = g h
answers_then v w (Syntax at) P Q g h = g h
answers_then v w (Doctype at) P Q g h = g h
answers_then v w (Deep at) P Q g h = g h
answers_then v w (Mismatch at) P Q g h = g h
answers_then v w (Unclosed at) P Q g h = g h
answers_then v w (Many at) P Q g h = g h
answers_then v w Memory P Q g h = tt
