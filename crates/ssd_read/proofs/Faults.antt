-- The first fault of a list.
use Rattle.std.proofs.Common.{◌≡◌, ℕ, ◌≤◌, ◌<◌, ◌+◌, List, [], ◌∷◌, ◌++◌, length, take, drop, Option, Some, None, refl}
use Rattle.std.proofs.Common.{arith, suc, ap, ◌∙◌, sym, drop-cons, add-one, length-drop}
use Rattle.std.proofs.lemmas.List.{nil_from_length, take_more}
use Rattle.std.specs.Option.{option_or}
use Rattle.ssd_read.specs.declared.refusal.SsdRefusal.{SsdRefusal}
use Rattle.ssd_read.specs.declared.refusal.SsdRefusal.TheVariants.{Encoding, Syntax, Doctype, Deep, Mismatch, Unclosed}
use Rattle.ssd_read.specs.declared.refusal.SsdRefusal.TheVariants.{Many, Root, NoName, Twice, NodeMissing, Terminals}
use Rattle.ssd_read.specs.declared.refusal.SsdRefusal.TheVariants.{Grounded, Loop, Limit, Memory}
use Rattle.ssd_read.specs.Elements.{Element, element_at, nowhere}
use Rattle.ssd_read.specs.Names.{FaultAfter, first_fault}
use Rattle.ssd_read.specs.Seen.{IsErrorOf}
use Rattle.std.proofs.lemmas.List.{length-take-le}
use Rattle.ssd_read.specs.declared.terminal_place.TerminalPlace.{TerminalPlace}
use Rattle.ssd_read.specs.Ends.{ends_of, fault_of_ends, end_fault}

first_more : (f : FaultAfter) (before : List Element) (x : Element) (xs : List Element) →
    first_fault f before (x ∷ xs) ≡ option_or (f before x) (first_fault f (before ++ x ∷ []) xs)
unfolding first_fault
first_more f before x xs = refl

first_end : (f : FaultAfter) (before : List Element) → first_fault f before [] ≡ None
unfolding first_fault
first_end f before = refl

pub first_at : (f : FaultAfter) (all : List Element) (i : ℕ) → i < length all → first_fault f (take i all) (drop i all)
    ≡ option_or (f (take i all) (element_at all i)) (first_fault f (take (i + 1) all) (drop (i + 1) all))
first_at f all i h =
    let cut : drop i all ≡ element_at all i ∷ drop (suc i) all = drop-cons all i nowhere h in
    rw (cut, first_more f (take i all) (element_at all i) (drop (suc i) all), ← take_more all i nowhere h, add-one) refl

pub fault_next : (f : FaultAfter) (all : List Element) (i : ℕ) (total : Option SsdRefusal) → i < length all →
    first_fault f (take i all) (drop i all) ≡ total → f (take i all) (element_at all i) ≡ None
    → first_fault f (take (i + 1) all) (drop (i + 1) all) ≡ total
fault_next f all i total h g n =
    sym (first_at f all i h ∙ ap (λ o. option_or o (first_fault f (take (i + 1) all) (drop (i + 1) all))) n) ∙ g

pub fault_here : (f : FaultAfter) (all : List Element) (i : ℕ) (total : Option SsdRefusal) (e : SsdRefusal) →
    i < length all → first_fault f (take i all) (drop i all) ≡ total → f (take i all) (element_at all i) ≡ Some e →
    total ≡ Some e
fault_here f all i total e h g n = sym g
    ∙ (first_at f all i h ∙ ap (λ o. option_or o (first_fault f (take (i + 1) all) (drop (i + 1) all))) n)

pub fault_none : (f : FaultAfter) (all : List Element) (i : ℕ) (total : Option SsdRefusal) → length all ≤ i →
    first_fault f (take i all) (drop i all) ≡ total → total ≡ None
fault_none f all i total h g =
    let none : drop i all ≡ [] = nil_from_length (drop i all) (omega (arith, length-drop i all)) in
    sym g ∙ (ap (first_fault f (take i all)) none ∙ first_end f (take i all))

pub finds_err : (e : SsdRefusal) (o total : Option SsdRefusal) → (o ≡ Some e → total ≡ Some e) → IsErrorOf e o →
    IsErrorOf e total
finds_err (Encoding at) o total h g = h g
finds_err (Syntax at) o total h g = h g
finds_err (Doctype at) o total h g = h g
finds_err (Deep at) o total h g = h g
finds_err (Mismatch at) o total h g = h g
finds_err (Unclosed at) o total h g = h g
finds_err (Many at) o total h g = h g
finds_err (Root at) o total h g = h g
finds_err (NoName at) o total h g = h g
finds_err (Twice at) o total h g = h g
finds_err (NodeMissing at) o total h g = h g
finds_err (Terminals at count) o total h g = h g
finds_err (Grounded at) o total h g = h g
finds_err (Loop at) o total h g = h g
finds_err (Limit what count) o total h g = h g
finds_err Memory o total h g = tt

pub sure : (e : SsdRefusal) (total : Option SsdRefusal) → total ≡ Some e → IsErrorOf e total
sure (Encoding at) total h = h
sure (Syntax at) total h = h
sure (Doctype at) total h = h
sure (Deep at) total h = h
sure (Mismatch at) total h = h
sure (Unclosed at) total h = h
sure (Many at) total h = h
sure (Root at) total h = h
sure (NoName at) total h = h
sure (Twice at) total h = h
sure (NodeMissing at) total h = h
sure (Terminals at count) total h = h
sure (Grounded at) total h = h
sure (Loop at) total h = h
sure (Limit what count) total h = h
sure Memory total h = tt

pub end_is : (all : List Element) (i : ℕ) (ends : List TerminalPlace) (o : Option SsdRefusal) → i < length all →
    ends ≡ ends_of all i → o ≡ fault_of_ends (element_at all i) ends → end_fault all (take i all) (element_at all i) ≡ o
unfolding end_fault
end_is all i ends o h e q =
    let within : i ≤ length all = omega arith in
    let count : length (take i all) ≡ i = length-take-le i all within in
    sym (q ∙ ap (fault_of_ends (element_at all i)) (e ∙ ap (ends_of all) (sym count)))
