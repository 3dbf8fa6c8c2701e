-- Steps that are taken, and the first that passes a limit.
use Rattle.std.proofs.Common.{◌≡◌, ℕ, ◌≤◌, ◌<◌, ◌+◌, List, [], ◌∷◌, ◌++◌, length, Option, Some, None, Bool, true}
use Rattle.std.proofs.Common.{false, Result, Ok, Err, refl, arith, zero, suc, ap, ◌∙◌, sym}
use Rattle.std.specs.List.{flat_map}
use Rattle.std.proofs.Common.{take, drop, get_or, drop-cons, append_assoc, eq-eqb}
use Rattle.std.proofs.lemmas.List.{take_more}
use Rattle.std.proofs.lemmas.Bool.{ne_eqb}
use Rattle.ssd_read.proofs.Taken.{append_none}
use Rattle.station_graph.specs.Building.{link_limit}
use Rattle.std.specs.Option.{option_map_or}
use Rattle.station_graph.specs.declared.fault.What.{What}
use Rattle.station_graph.specs.declared.fault.BuildFault.{BuildFault}
use Rattle.station_graph.specs.declared.fault.BuildFault.TheVariants as faults
use Rattle.station_graph.specs.Diagram.{Diagram}
use Rattle.station_graph.specs.Building.{IsFaultOf}
use Rattle.ssd_read.specs.declared.refusal.SsdRefusal.{SsdRefusal}
use Rattle.ssd_read.specs.declared.refusal.SsdRefusal.TheVariants.{Encoding, Syntax, Doctype, Deep, Mismatch, Unclosed}
use Rattle.ssd_read.specs.declared.refusal.SsdRefusal.TheVariants.{Many, Root, NoName, Twice, NodeMissing, Terminals}
use Rattle.ssd_read.specs.declared.refusal.SsdRefusal.TheVariants.{Grounded, Loop, Limit, Memory}
use Rattle.ssd_read.specs.Steps.{Step, built, limit_at, added, limit_fault, link_step, a_link}
use Rattle.ssd_read.specs.Seen.{AnswersRefusal, Builds, refusal_of}
use Rattle.ssd_read.specs.Elements.{Element}
use Rattle.ssd_read.specs.Names.{is_node}
use Rattle.ssd_read.specs.Steps.{a_part, a_node, is_part, naming_step}
use Rattle.station_graph.specs.Building.{part_limit, node_limit}

pub built_none : (d : Diagram) → built d [] ≡ Ok d
unfolding built
built_none d = refl

pub built_one : (d new : Diagram) (s : Step) → limit_at d s ≡ None → new ≡ added d s → built d (s ∷ []) ≡ Ok new
unfolding built
built_one d new s h e = rw (h, e) refl

refused_at : (d : Diagram) (s : Step) (l : What × ℕ) → limit_at d s ≡ Some l → built d (s ∷ []) ≡ Err (limit_fault l)
unfolding built
refused_at d s l h = rw h refl

pub built_refused : (d : Diagram) (s : Step) (f : BuildFault) (e : SsdRefusal) → e ≡ refusal_of f →
    IsFaultOf f (limit_at d s) → AnswersRefusal e (built d (s ∷ []))
built_refused d s faults.Memory e q h = rw q tt
built_refused d s (faults.Limit what count) e q h = rw q (refused_at d s (what, count) h)

pub then_case : (t : List Step) (o : Option (What × ℕ)) (r : Result Diagram SsdRefusal) → (e : Diagram) →
    option_map_or (λ l. Err (limit_fault l)) o r ≡ Ok e → (o ≡ None) × (r ≡ Ok e)
then_case t None r e h = (refl, h)
then_case t (Some l) r e h = absurd (cc)

pub built_then : (d e : Diagram) (ss ts : List Step) → built d ss ≡ Ok e → built d (ss ++ ts) ≡ built e ts
unfolding built
built_then d e [] ts h = let same : d ≡ e = cc in ap (λ (x : Diagram). built x ts) same
built_then d e (s ∷ ss) ts h = let both = then_case ts (limit_at d s) (built (added d s) ss) e h in
    rw both.0 (built_then (added d s) e ss ts both.1)

stop_case : (o : Option (What × ℕ)) (r q : Result Diagram SsdRefusal) (f : SsdRefusal) →
    option_map_or (λ l. Err (limit_fault l)) o r ≡ Err f → (r ≡ Err f → q ≡ Err f) →
    option_map_or (λ l. Err (limit_fault l)) o q ≡ Err f
stop_case None r q f h g = g h
stop_case (Some l) r q f h g = h

pub built_stop : (d : Diagram) (ss ts : List Step) (f : SsdRefusal) → built d ss ≡ Err f → built d (ss ++ ts) ≡ Err f
unfolding built
built_stop d [] ts f h = absurd (cc)
built_stop d (s ∷ ss) ts f h = stop_case (limit_at d s) (built (added d s) ss) (built (added d s) (ss ++ ts)) f h
    (λ g. built_stop (added d s) ss ts f g)

pub joined_link : (bond : Bool) (part a b : ℕ) → a ≡ b → link_step bond part a b ≡ []
joined_link bond part a b e = rw (eq-eqb a b e) refl

apart_link : (bond : Bool) (part a b : ℕ) → (a ≡ b → ⊥) →
    link_step bond part a b ≡ a_link (record {
      first = record { 0 = a };
      second = record { 0 = b };
      bond = bond;
      part = record { 0 = part };
    }) ∷ []
apart_link bond part a b h = rw (ne_eqb a b h) refl

pub built_link : (d new : Diagram) (bond : Bool) (part a b : ℕ) → (a ≡ b → ⊥) → link_limit d ≡ None
    → new ≡ added d (a_link (record {
      first = record { 0 = a };
      second = record { 0 = b };
      bond = bond;
      part = record { 0 = part };
    })) → built d (link_step bond part a b) ≡ Ok new
built_link d new bond part a b n h e = rw (apart_link bond part a b n) (built_one d new _ h e)

pub refused_link : (d : Diagram) (bond : Bool) (part a b : ℕ) (f : BuildFault) (e : SsdRefusal) → (a ≡ b → ⊥) →
    e ≡ refusal_of f → IsFaultOf f (link_limit d) → AnswersRefusal e (built d (link_step bond part a b))
refused_link d bond part a b f e n q h = rw (apart_link bond part a b n)
    (built_refused d (a_link (record {
      first = record { 0 = a };
      second = record { 0 = b };
      bond = bond;
      part = record { 0 = part };
    })) f e q h)

-- ---- steps of a list of things, one after another

flat_end : {X : Type 0} (f : X → List Step) (xs : List X) (x : X) → flat_map f (xs ++ x ∷ []) ≡ flat_map f xs ++ f x
flat_end f [] x = append_none (f x)
flat_end f (y ∷ ys) x = ap (λ l. f y ++ l) (flat_end f ys x) ∙ sym (append_assoc (f y) (flat_map f ys) (f x))

flat_both : {X : Type 0} (f : X → List Step) (xs ys : List X) → flat_map f (xs ++ ys) ≡ flat_map f xs ++ flat_map f ys
flat_both f [] ys = refl
flat_both f (x ∷ xs) ys = ap (λ l. f x ++ l) (flat_both f xs ys)
    ∙ sym (append_assoc (f x) (flat_map f xs) (flat_map f ys))

pub flat_next : {X : Type 0} (d mid new : Diagram) (f : X → List Step) (xs : List X) (i : ℕ) (x : X) → i < length xs →
    built d (flat_map f (take i xs)) ≡ Ok mid → built mid (f (get_or xs i x)) ≡ Ok new →
    built d (flat_map f (take (i + 1) xs)) ≡ Ok new
flat_next d mid new f xs i x h b n = rw (
  take_more xs i x h,
  flat_end f (take i xs) (get_or xs i x),
  built_then d mid
      (flat_map f (take i xs)) (f (get_or xs i x)) b,
) n

pub at_refused : (e : SsdRefusal) (r q : Result Diagram SsdRefusal) → (r ≡ Err e → q ≡ Err e) → AnswersRefusal e r →
    AnswersRefusal e q
at_refused (Encoding at) r q h g = h g
at_refused (Syntax at) r q h g = h g
at_refused (Doctype at) r q h g = h g
at_refused (Deep at) r q h g = h g
at_refused (Mismatch at) r q h g = h g
at_refused (Unclosed at) r q h g = h g
at_refused (Many at) r q h g = h g
at_refused (Root at) r q h g = h g
at_refused (NoName at) r q h g = h g
at_refused (Twice at) r q h g = h g
at_refused (NodeMissing at) r q h g = h g
at_refused (Terminals at count) r q h g = h g
at_refused (Grounded at) r q h g = h g
at_refused (Loop at) r q h g = h g
at_refused (Limit what count) r q h g = h g
at_refused Memory r q h g = tt

pub halves : {X : Type 0} (xs : List X) (i : ℕ) → take i xs ++ drop i xs ≡ xs
halves [] zero = refl
halves [] (suc i) = refl
halves (x ∷ xs) zero = refl
halves (x ∷ xs) (suc i) = ap (λ l. x ∷ l) (halves xs i)

pub past_all : {X : Type 0} (xs : List X) (i : ℕ) → length xs ≤ i → take i xs ≡ xs
past_all [] zero h = refl
past_all [] (suc i) h = refl
past_all (x ∷ xs) zero h = absurd (omega arith)
past_all (x ∷ xs) (suc i) h = let h' : length xs ≤ i = omega arith in ap (λ l. x ∷ l) (past_all xs i h')

pub flat_refused : {X : Type 0} (d mid : Diagram) (f : X → List Step) (xs : List X) (i : ℕ) (x : X) (e : SsdRefusal) →
    i < length xs → built d (flat_map f (take i xs)) ≡ Ok mid → AnswersRefusal e (built mid (f (get_or xs i x))) →
    AnswersRefusal e (built d (flat_map f xs))
flat_refused d mid f xs i x e h b n =
    let cut : xs ≡ take i xs ++ (get_or xs i x ∷ drop (suc i) xs) = sym (halves xs i) ∙ ap (λ l. take i xs ++ l)
    (drop-cons xs i x h) in
    let parts : flat_map f xs ≡ flat_map f (take i xs) ++ (f (get_or xs i x) ++ flat_map f (drop (suc i) xs)) =
    ap (flat_map f) cut ∙ flat_both f (take i xs) (get_or xs i x ∷ drop (suc i) xs) in
    let whole : built d (flat_map f xs) ≡ built mid (f (get_or xs i x) ++ flat_map f (drop (suc i) xs)) =
    ap (built d) parts ∙ built_then d mid (flat_map f (take i xs)) (f (get_or xs i x) ++ flat_map f
    (drop (suc i) xs)) b in
    at_refused e (built mid (f (get_or xs i x))) (built d (flat_map f xs)) (λ q. whole
    ∙ built_stop mid (f (get_or xs i x)) (flat_map f (drop (suc i) xs)) e q) n

pub flat_whole : {X : Type 0} (d mid : Diagram) (f : X → List Step) (xs : List X) (i : ℕ) → length xs ≤ i →
    built d (flat_map f (take i xs)) ≡ Ok mid → built d (flat_map f xs) ≡ Ok mid
flat_whole d mid f xs i h b = ap (λ l. built d (flat_map f l)) (sym (past_all xs i h)) ∙ b

-- ---- parts and nodes

pub part_built : (d new : Diagram) (x : Element) (path : List ℕ) → true ≡ is_part x → path ≡ x.path →
    part_limit d ≡ None → new ≡ added d (a_part path) → built d (naming_step x) ≡ Ok new
part_built d new x path t e h n = rw (← t, ← e) (built_one d new (a_part path) h n)

pub part_refused : (d : Diagram) (x : Element) (path : List ℕ) (f : BuildFault) (e : SsdRefusal) → true ≡ is_part x →
    path ≡ x.path → e ≡ refusal_of f → IsFaultOf f (part_limit d) → AnswersRefusal e (built d (naming_step x))
part_refused d x path f e t p q h = rw (← t, ← p) (built_refused d (a_part path) f e q h)

pub node_built : (d new : Diagram) (x : Element) (path : List ℕ) → false ≡ is_part x → is_node x ≡ true →
    path ≡ x.path → node_limit d ≡ None → new ≡ added d (a_node path) → built d (naming_step x) ≡ Ok new
node_built d new x path t k e h n = rw (← t, k, ← e) (built_one d new (a_node path) h n)

pub node_refused : (d : Diagram) (x : Element) (path : List ℕ) (f : BuildFault) (e : SsdRefusal) → false ≡ is_part x →
    is_node x ≡ true → path ≡ x.path → e ≡ refusal_of f → IsFaultOf f (node_limit d) →
    AnswersRefusal e (built d (naming_step x))
node_refused d x path f e t k p q h = rw (← t, k, ← p) (built_refused d (a_node path) f e q h)

pub nothing_built : (d : Diagram) (x : Element) → false ≡ is_part x → is_node x ≡ false → built d (naming_step x) ≡ Ok d
nothing_built d x t k = rw (← t, k) (built_none d)

-- ---- some steps and then others

pub first_refused : (d : Diagram) (ss ts : List Step) (e : SsdRefusal) → AnswersRefusal e (built d ss) →
    AnswersRefusal e (built d (ss ++ ts))
first_refused d ss ts e h = at_refused e (built d ss) (built d (ss ++ ts)) (λ q. built_stop d ss ts e q) h

pub then_builds : {X : Type 0} (d mid new : Diagram) (ss ts : List Step) (r : Result X SsdRefusal) →
    built d ss ≡ Ok mid → Builds mid ts r new → Builds d (ss ++ ts) r new
then_builds d mid new ss ts (Ok x) h b = built_then d mid ss ts h ∙ b
then_builds d mid new ss ts (Err e) h b = at_refused e (built mid ts) (built d (ss ++ ts))
    (λ q. built_then d mid ss ts h ∙ q) b
