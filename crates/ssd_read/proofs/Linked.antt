-- Links between neighbours.
use Rattle.std.proofs.Common.{◌≡◌, ℕ, ◌≤◌, ◌<◌, ◌+◌, List, [], ◌∷◌, ◌++◌, length, take, drop, get_or, Bool, Ok, refl}
use Rattle.std.proofs.Common.{suc, ap, ◌∙◌, sym, append_assoc, drop-cons}
use Rattle.std.proofs.lemmas.List.{take_more}
use Rattle.station_graph.specs.Diagram.{Diagram}
use Rattle.ssd_read.specs.declared.refusal.SsdRefusal.{SsdRefusal}
use Rattle.std.proofs.Common.{arith, true, false}
use Rattle.ssd_text.specs.Nesting.{Entry}
use Rattle.ssd_read.specs.Steps.{Step, built, link_step, links_after, links_along, lone_tap, is_tapless, tap_step}
use Rattle.ssd_read.specs.Seen.{AnswersRefusal}
use Rattle.ssd_read.proofs.Taken.{append_none}
use Rattle.ssd_read.proofs.Stepped.{built_then, built_stop, at_refused, halves, past_all}

-- The last of a node and those after it.
abbrev pub last_of : ℕ → List ℕ → ℕ
last_of a [] = a
last_of a (b ∷ ns) = last_of b ns

pub links_split : (bond : Bool) (part a : ℕ) (xs ys : List ℕ) → links_after bond part a (xs ++ ys) ≡ links_after bond part a
    xs ++ links_after bond part (last_of a xs) ys
links_split bond part a [] ys = refl
links_split bond part a (x ∷ xs) ys = ap (λ l. link_step bond part a x ++ l) (links_split bond part x xs ys)
    ∙ sym (append_assoc (link_step bond part a x) (links_after bond part x xs)
    (links_after bond part (last_of x xs) ys))

pub last_end : (a : ℕ) (xs : List ℕ) (b : ℕ) → last_of a (xs ++ b ∷ []) ≡ b
last_end a [] b = refl
last_end a (x ∷ xs) b = last_end x xs b

pub last_next : (a : ℕ) (ns : List ℕ) (i : ℕ) → i < length ns → get_or ns i 0 ≡ last_of a (take (i + 1) ns)
last_next a ns i h = sym (ap (last_of a) (take_more ns i 0 h) ∙ last_end a (take i ns) (get_or ns i 0))

pub link_next : (d mid new : Diagram) (bond : Bool) (part a last : ℕ) (ns : List ℕ) (i : ℕ) → i < length ns →
    last ≡ last_of a (take i ns) → built d (links_after bond part a (take i ns)) ≡ Ok mid →
    built mid (link_step bond part last (get_or ns i 0)) ≡ Ok new
    → built d (links_after bond part a (take (i + 1) ns)) ≡ Ok new
link_next d mid new bond part a last ns i h e b n =
    let parts : links_after bond part a (take (i + 1) ns) ≡ links_after bond part a (take i ns) ++ link_step bond part
    last (get_or ns i 0) =
    ap (links_after bond part a) (take_more ns i 0 h) ∙ (links_split bond part a (take i ns) (get_or ns i 0 ∷ [])
    ∙ (ap (λ l. links_after bond part a (take i ns) ++ (link_step bond part l (get_or ns i 0) ++ [])) (sym e)
    ∙ ap (λ l. links_after bond part a (take i ns) ++ l) (append_none (link_step bond part last (get_or ns i 0))))) in
    ap (built d) parts ∙ (built_then d mid (links_after bond part a (take i ns))
    (link_step bond part last (get_or ns i 0)) b ∙ n)

pub link_refused : (d mid : Diagram) (bond : Bool) (part a last : ℕ) (ns : List ℕ) (i : ℕ) (f : SsdRefusal) →
    i < length ns → last ≡ last_of a (take i ns) → built d (links_after bond part a (take i ns)) ≡ Ok mid →
    AnswersRefusal f (built mid (link_step bond part last (get_or ns i 0)))
    → AnswersRefusal f (built d (links_after bond part a ns))
link_refused d mid bond part a last ns i f h e b n =
    let b0 = get_or ns i 0 in
    let after : List Step = links_after bond part b0 (drop (suc i) ns) in
    let cut : ns ≡ take i ns ++ (b0 ∷ drop (suc i) ns) = sym (halves ns i) ∙ ap (λ l. take i ns ++ l)
    (drop-cons ns i 0 h) in
    let parts : links_after bond part a ns ≡ links_after bond part a (take i ns)
    ++ (link_step bond part last b0 ++ after) =
    ap (links_after bond part a) cut ∙ (links_split bond part a (take i ns) (b0 ∷ drop (suc i) ns)
    ∙ ap (λ l. links_after bond part a (take i ns) ++ (link_step bond part l b0 ++ after)) (sym e)) in
    let whole : built d (links_after bond part a ns) ≡ built mid (link_step bond part last b0 ++ after) =
    ap (built d) parts ∙ built_then d mid (links_after bond part a (take i ns))
    (link_step bond part last b0 ++ after) b in
    at_refused f (built mid (link_step bond part last b0)) (built d (links_after bond part a ns)) (λ q. whole
    ∙ built_stop mid (link_step bond part last b0) after f q) n

pub link_whole : (d mid : Diagram) (bond : Bool) (part a : ℕ) (ns : List ℕ) (i : ℕ) → length ns ≤ i →
    built d (links_after bond part a (take i ns)) ≡ Ok mid → built d (links_after bond part a ns) ≡ Ok mid
link_whole d mid bond part a ns i h b = ap (λ l. built d (links_after bond part a l)) (sym (past_all ns i h)) ∙ b

pub no_links : (bond : Bool) (part : ℕ) (ns : List ℕ) → length ns < 1 → links_along bond part ns ≡ []
no_links bond part [] h = refl
no_links bond part (a ∷ ns) h = absurd (omega arith)

pub not_lone : (e : Entry) (part : ℕ) (ns : List ℕ) → (length ns ≡ 1 → ⊥) → lone_tap e part ns ≡ []
not_lone e part [] h = refl
not_lone e part (a ∷ []) h = absurd (h refl)
not_lone e part (a ∷ b ∷ ns) h = refl

pub tapless_lone : (e : Entry) (part : ℕ) (ns : List ℕ) → true ≡ is_tapless e → length ns ≡ 1 → lone_tap e part ns ≡ []
tapless_lone e part [] t h = refl
tapless_lone e part (a ∷ []) t h = rw (← t) refl
tapless_lone e part (a ∷ b ∷ ns) t h = refl

pub loaded_lone : (e : Entry) (part : ℕ) (ns : List ℕ) → false ≡ is_tapless e → length ns ≡ 1 →
    tap_step part (get_or ns 0 0) ∷ [] ≡ lone_tap e part ns
loaded_lone e part [] t h = absurd (omega arith)
loaded_lone e part (a ∷ []) t h = rw (← t) refl
loaded_lone e part (a ∷ b ∷ ns) t h = absurd (omega arith)
