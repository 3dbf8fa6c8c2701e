-- Elements in document order, and what each of them stands in.
use Rattle.std.proofs.Common.{◌≡◌, ℕ, ◌≤◌, ◌<◌, List, [], ◌∷◌, ◌++◌, length, take, get_or, Option, Some, None, Bool}
use Rattle.std.proofs.Common.{true, false, ◌==◌, cond, refl, arith, zero, suc, ap, ◌∙◌, sym, subst, append_assoc}
use Rattle.std.specs.List.{slice_get}
use Rattle.std.proofs.lemmas.Option.{slice_get-get_or}
use Rattle.std.proofs.lemmas.List.{get_or-take, length-take-le}
use Rattle.std.proofs.lemmas.Bool.{eqb-false, ltb-true, ltb-false}
use borrow.Author.Tests.{eqb-true}
use Rattle.std.specs.Prelude.{codes, nat_lt, IsSomeAnd}
use Rattle.ssd_text.specs.Nesting.{Entry}
use Rattle.ssd_read.specs.declared.role.Role.{Role}
use Rattle.ssd_read.specs.declared.role.Role.TheVariants.{Root, Substation, VoltageLevel, Bay, ConnectivityNode}
use Rattle.ssd_read.specs.declared.role.Role.TheVariants.{ConductingEquipment, PowerTransformer, TransformerWinding}
use Rattle.ssd_read.specs.declared.role.Role.TheVariants.{Terminal, Skipped}
use Rattle.ssd_read.specs.Elements.{Element, element_at, element_after, elements_after, nowhere, role_in}
use Rattle.ssd_read.specs.Elements.{unless_grounded, path_in, front_of_tree, elements_of, says, is_named}
use Rattle.ssd_text.specs.Nesting.{entry_at}
use Rattle.ssd_text.specs.Nesting.{IsInOrder}
use Rattle.ssd_read.specs.Laws.{StandsIn}
use Rattle.ssd_read.proofs.Placed.{elements_more, elements_end}
use Rattle.ssd_read.proofs.Taken.{append_none}

-- ---- the elements after those before them

pub rest_after : List ℕ → List Element → List Entry → List Element
rest_after front before [] = []
rest_after front before (e ∷ es) = element_after front before e ∷ rest_after front
    (before ++ element_after front before e ∷ []) es

pub after_rest : (front : List ℕ) (before : List Element) (es : List Entry) →
    elements_after front before es ≡ before ++ rest_after front before es
unfolding rest_after
after_rest front before [] = elements_end front before ∙ sym (append_none before)
after_rest front before (e ∷ es) =
    elements_more front before e es ∙ (after_rest front (before ++ element_after front before e ∷ []) es
    ∙ append_assoc before (element_after front before e ∷ [])
    (rest_after front (before ++ element_after front before e ∷ []) es))

rest_len : (front : List ℕ) (before : List Element) (es : List Entry) → length (rest_after front before es) ≡ length es
unfolding rest_after
rest_len front before [] = refl
rest_len front before (e ∷ es) = ap suc (rest_len front (before ++ element_after front before e ∷ []) es)

rest_at : (front : List ℕ) (before : List Element) (es : List Entry) (j : ℕ) → j < length es
    → get_or (rest_after front before es) j nowhere ≡ element_after front
    (before ++ take j (rest_after front before es)) (entry_at es j)
unfolding rest_after
rest_at front before [] j h = absurd (omega arith)
rest_at front before (e ∷ es) zero h = ap (λ l. element_after front l e) (sym (append_none before))
rest_at front before (e ∷ es) (suc j) h =
    let h' : j < length es = omega arith in
    let x : Element = element_after front before e in
    rest_at front (before ++ x ∷ []) es j h' ∙ ap (λ l. element_after front l (entry_at es j))
    (append_assoc before (x ∷ []) (take j (rest_after front (before ++ x ∷ []) es)))

-- ---- each element of a tree

pub drawn_len : (tree : List Entry) → length (elements_of tree) ≡ length tree
drawn_len tree = ap length (after_rest (front_of_tree tree) [] tree) ∙ rest_len (front_of_tree tree) [] tree

pub drawn_at : (tree : List Entry) (i : ℕ) → i < length tree → element_at (elements_of tree) i ≡ element_after
    (front_of_tree tree) (take i (elements_of tree)) (entry_at tree i)
drawn_at tree i h =
    let whole : elements_of tree ≡ rest_after (front_of_tree tree) [] tree = after_rest (front_of_tree tree) [] tree in
    rw whole (rest_at (front_of_tree tree) [] tree i h)

pub drawn_entry : (tree : List Entry) (i : ℕ) → i < length tree → (element_at (elements_of tree) i).entry
    ≡ entry_at tree i
drawn_entry tree i h = ap (λ x. x.entry) (drawn_at tree i h)

above_is : (all : List Element) (i p : ℕ) → p < i → i ≤ length all → slice_get (take i all) p ≡ Some (element_at all p)
above_is all i p h l =
    let count : length (take i all) ≡ i = length-take-le i all l in
    let within : p < length (take i all) = omega arith in
    slice_get-get_or (take i all) p nowhere within ∙ ap Some (get_or-take i all p nowhere h)

after_some : (front : List ℕ) (before : List Element) (e : Entry) (p : ℕ) (a : Element) → e.parent ≡ Some p →
    slice_get before p ≡ Some a
    → element_after front before e ≡ record {
      entry = e;
      role = unless_grounded e (role_in a.role front e);
      within = a.role;
      path = path_in a.path (unless_grounded e (role_in a.role front e)) e;
    }
after_some front before e p a h g = rw (h, g) refl

after_none : (front : List ℕ) (before : List Element) (e : Entry) → e.parent ≡ None →
    (element_after front before e).role ≡ Root
after_none front before e h = rw h refl

pub stands_in : (tree : List Entry) (i p : ℕ) → IsInOrder tree → i < length tree →
    (element_at (elements_of tree) i).entry.parent ≡ Some p → StandsIn (elements_of tree) i p (front_of_tree tree)
stands_in tree i p o h e =
    let all : List Element = elements_of tree in
    let front : List ℕ = front_of_tree tree in
    let entry : Entry = entry_at tree i in
    let same : (element_at all i).entry ≡ entry = drawn_entry tree i h in
    let parent : entry.parent ≡ Some p = sym (ap (λ (x : Entry). x.parent) same) ∙ e in
    let before : p < i = (o i p parent).0 in
    let inside : i ≤ length all = omega (arith, drawn_len tree) in
    let a : Element = element_at all p in
    let is = drawn_at tree i h ∙ after_some front (take i all) entry p a parent (above_is all i p before inside) in
    let role : (element_at all i).role ≡ unless_grounded entry (role_in a.role front entry) = ap (λ x. x.role) is in
    record {
      before = before;
      role = role ∙ ap (λ (e : Entry). unless_grounded e (role_in a.role front e)) (sym same);
      within = ap (λ x. x.within) is;
      path = ap (λ x. x.path) is ∙ (ap (λ (r : Role). path_in a.path r entry) (sym role)
          ∙ ap (λ (e : Entry). path_in a.path (element_at all i).role e) (sym same));
    }

pub stands_alone : (tree : List Entry) (i : ℕ) → i < length tree → (element_at (elements_of tree) i).entry.parent
    ≡ None → (element_at (elements_of tree) i).role ≡ Root
stands_alone tree i h e =
    let parent : (entry_at tree i).parent ≡ None = sym (ap (λ (x : Entry). x.parent) (drawn_entry tree i h)) ∙ e in
    ap (λ x. x.role) (drawn_at tree i h) ∙ after_none (front_of_tree tree) (take i (elements_of tree))
    (entry_at tree i) parent

-- ---- which roles stand in which

-- In what an element of a role may stand.
abbrev pub MayStandIn : Role → Role → Type 0
MayStandIn outer Root = ⊥
MayStandIn outer Substation = outer ≡ Root
MayStandIn outer VoltageLevel = outer ≡ Substation
MayStandIn outer Bay = outer ≡ VoltageLevel
MayStandIn outer ConnectivityNode = outer ≡ Bay
MayStandIn outer ConductingEquipment = outer ≡ Bay
MayStandIn Root PowerTransformer = ⊥
MayStandIn Substation PowerTransformer = Unit {0}
MayStandIn VoltageLevel PowerTransformer = Unit {0}
MayStandIn Bay PowerTransformer = Unit {0}
MayStandIn ConnectivityNode PowerTransformer = ⊥
MayStandIn ConductingEquipment PowerTransformer = ⊥
MayStandIn PowerTransformer PowerTransformer = ⊥
MayStandIn TransformerWinding PowerTransformer = ⊥
MayStandIn Terminal PowerTransformer = ⊥
MayStandIn Skipped PowerTransformer = ⊥
MayStandIn outer TransformerWinding = outer ≡ PowerTransformer
MayStandIn Root Terminal = ⊥
MayStandIn Substation Terminal = ⊥
MayStandIn VoltageLevel Terminal = ⊥
MayStandIn Bay Terminal = ⊥
MayStandIn ConnectivityNode Terminal = ⊥
MayStandIn ConductingEquipment Terminal = Unit {0}
MayStandIn PowerTransformer Terminal = ⊥
MayStandIn TransformerWinding Terminal = Unit {0}
MayStandIn Terminal Terminal = ⊥
MayStandIn Skipped Terminal = ⊥
MayStandIn outer Skipped = Unit {0}

grounded_case : (b : Bool) → MayStandIn Bay (cond b Skipped ConnectivityNode)
grounded_case true = tt
grounded_case false = refl

bay_case : (e : Entry) (a b c : Bool) →
    MayStandIn Bay (unless_grounded e
    (cond a ConnectivityNode (cond b ConductingEquipment (cond c PowerTransformer Skipped))))
bay_case e true b c = grounded_case (says e (codes "name") (codes "grounded"))
bay_case e false true c = refl
bay_case e false false true = tt
bay_case e false false false = tt

root_case : (e : Entry) (a : Bool) → MayStandIn Root (unless_grounded e (cond a Substation Skipped))
root_case e true = refl
root_case e false = tt

substation_case : (e : Entry) (a b : Bool) →
    MayStandIn Substation (unless_grounded e (cond a VoltageLevel (cond b PowerTransformer Skipped)))
substation_case e true b = refl
substation_case e false true = tt
substation_case e false false = tt

level_case : (e : Entry) (a b : Bool) →
    MayStandIn VoltageLevel (unless_grounded e (cond a Bay (cond b PowerTransformer Skipped)))
level_case e true b = refl
level_case e false true = tt
level_case e false false = tt

transformer_case : (e : Entry) (a : Bool) →
    MayStandIn PowerTransformer (unless_grounded e (cond a TransformerWinding Skipped))
transformer_case e true = refl
transformer_case e false = tt

equipment_case : (e : Entry) (a : Bool) → MayStandIn ConductingEquipment (unless_grounded e (cond a Terminal Skipped))
equipment_case e true = tt
equipment_case e false = tt

winding_case : (e : Entry) (a : Bool) → MayStandIn TransformerWinding (unless_grounded e (cond a Terminal Skipped))
winding_case e true = tt
winding_case e false = tt

pub may_stand : (outer : Role) (front : List ℕ) (e : Entry) →
    MayStandIn outer (unless_grounded e (role_in outer front e))
may_stand Root front e = root_case e (is_named front e (codes "Substation"))
may_stand Substation front e = substation_case e (is_named front e (codes "VoltageLevel"))
    (is_named front e (codes "PowerTransformer"))
may_stand VoltageLevel front e = level_case e (is_named front e (codes "Bay"))
    (is_named front e (codes "PowerTransformer"))
may_stand Bay front e = bay_case e (is_named front e (codes "ConnectivityNode"))
    (is_named front e (codes "ConductingEquipment")) (is_named front e (codes "PowerTransformer"))
may_stand ConnectivityNode front e = tt
may_stand ConductingEquipment front e = equipment_case e (is_named front e (codes "Terminal"))
may_stand PowerTransformer front e = transformer_case e (is_named front e (codes "TransformerWinding"))
may_stand TransformerWinding front e = winding_case e (is_named front e (codes "Terminal"))
may_stand Terminal front e = tt
may_stand Skipped front e = tt

-- ---- within a bay

-- What may stand in a bay, or deeper.
abbrev pub IsInner : Role → Type 0
IsInner Root = ⊥
IsInner Substation = ⊥
IsInner VoltageLevel = ⊥
IsInner Bay = ⊥
IsInner _ = Unit {0}

abbrev pub IsBayOrInner : Role → Type 0
IsBayOrInner Bay = Unit {0}
IsBayOrInner r = IsInner r

inner_step : (outer r : Role) → MayStandIn outer r → IsBayOrInner outer → IsInner r
inner_step outer Root h i = h
inner_step outer Substation h i = subst IsBayOrInner h i
inner_step outer VoltageLevel h i = subst IsBayOrInner h i
inner_step outer Bay h i = subst IsBayOrInner h i
inner_step outer ConnectivityNode h i = tt
inner_step outer ConductingEquipment h i = tt
inner_step outer PowerTransformer h i = tt
inner_step outer TransformerWinding h i = tt
inner_step outer Terminal h i = tt
inner_step outer Skipped h i = tt

pub or_inner : (r : Role) → IsInner r → IsBayOrInner r
or_inner Root h = h
or_inner Substation h = h
or_inner VoltageLevel h = h
or_inner Bay h = tt
or_inner ConnectivityNode h = tt
or_inner ConductingEquipment h = tt
or_inner PowerTransformer h = tt
or_inner TransformerWinding h = tt
or_inner Terminal h = tt
or_inner Skipped h = tt

pub inner_of : (all : List Element) (i p : ℕ) (front : List ℕ) → StandsIn all i p front →
    IsBayOrInner (element_at all p).role → IsInner (element_at all i).role
inner_of all i p front s h = subst IsInner (sym s.role) (inner_step (element_at all p).role
    (unless_grounded (element_at all i).entry (role_in (element_at all p).role front (element_at all i).entry))
    (may_stand (element_at all p).role front (element_at all i).entry) h)

pub parent_of : (tree : List Entry) (i : ℕ) (o : Option ℕ) → i < length tree → (entry_at tree i).parent ≡ o →
    (element_at (elements_of tree) i).entry.parent ≡ o
parent_of tree i o h e = ap (λ (x : Entry). x.parent) (drawn_entry tree i h) ∙ e

reached : (tree : List Entry) (p q : ℕ) → (element_at (elements_of tree) p).role ≡ Bay → p ≤ q →
    (p < q → IsBayOrInner (element_at (elements_of tree) q).role) → (t : Bool) → (p == q) ≡ t →
    IsBayOrInner (element_at (elements_of tree) q).role
reached tree p q b least deeper true t = let same : p ≡ q = eqb-true p q t in
    subst (λ q. IsBayOrInner (element_at (elements_of tree) q).role) same (subst IsBayOrInner (sym b) tt)
reached tree p q b least deeper false t = let apart : p ≡ q → ⊥ = eqb-false p q t in deeper (omega arith)

pub some_and : (o : Option ℕ) (p : ℕ) → IsSomeAnd o (λ q. p ≤ q) → (q : ℕ) × (o ≡ Some q) × (p ≤ q)
some_and None p h = absurd h
some_and (Some q) p h = (q, refl, h)

pub all_inner : (tree : List Entry) (j p n k : ℕ) → IsInOrder tree → j < length tree → (entry_at tree j).parent ≡ Some p →
    (element_at (elements_of tree) p).role ≡ Bay → k ≤ n → p < k → k < j →
    IsInner (element_at (elements_of tree) k).role
all_inner tree j p zero k o h e b l a z = absurd (omega arith)
all_inner tree j p (suc n) k o h e b l a z =
    let up = some_and (entry_at tree k).parent p ((o j p e).1 k a z) in
    let k_in : k < length tree = omega arith in
    let s : StandsIn (elements_of tree) k up.0 (front_of_tree tree) =
    stands_in tree k up.0 o k_in (parent_of tree k (Some up.0) k_in up.1) in
    let less : up.0 < k = s.before in
    let least : p ≤ up.0 = up.2 in
    inner_of (elements_of tree) k up.0 (front_of_tree tree) s
    (reached tree p up.0 b least (λ m. or_inner (element_at (elements_of tree) up.0).role
    (all_inner tree j p n up.0 o h e b (omega arith) m (omega arith))) (p == up.0) refl)

-- Of two elements that stand in bays the later one stands in the same bay or a later one.
pub bays_rise : (tree : List Entry) (i j p q : ℕ) → IsInOrder tree → i < j → j < length tree →
    (entry_at tree i).parent ≡ Some p → (entry_at tree j).parent ≡ Some q →
    (element_at (elements_of tree) p).role ≡ Bay →
    (element_at (elements_of tree) q).role ≡ Bay → p ≤ q
bays_rise tree i j p q o l h ei ej bp bq = go (nat_lt q p) refl
  where
    go : (t : Bool) → nat_lt q p ≡ t → p ≤ q
    go true t =
        let later : q < p = ltb-true q p t in
        let i_in : i < length tree = omega arith in
        let before : p < i = (o i p ei).0 in
        let bad : IsInner (element_at (elements_of tree) p).role = all_inner tree j q p p o h ej bq (omega arith) later
        (omega arith) in
        absurd (subst IsInner bp bad)
    go false t = ltb-false q p t
