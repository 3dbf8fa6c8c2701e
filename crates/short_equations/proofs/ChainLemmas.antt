-- Sets of parts: which are one beside another, and what is all of a station but one switch.
use Rattle.std.proofs.Common.{◌≡◌, ◌<◌, ◌≤◌, ◌⊎◌, ℕ, zero, suc, List, [], ◌∷◌, length, slice_get, Some, refl, sym, ◌∙◌}
use Rattle.std.proofs.Common.{ap, subst, inl, inr, arith}
use Rattle.std.proofs.lemmas.Bool.{cases_eq}
use Rattle.std.proofs.lemmas.Option.{slice_get_within}
use Rattle.ilk_base.specs.declared.words.BayId.{BayId}
use Rattle.station_graph.specs.declared.items.Switch.{Switch}
use Rattle.station_graph.specs.declared.items.Link.{Link}
use Rattle.station_graph.specs.declared.items.Tap.{Tap}
use Rattle.station_graph.specs.Diagram.{Diagram, IsStation, part_count}
use Rattle.station_graph.specs.Connection.{Item, a_switch, a_link, a_tap}
use Rattle.station_graph.specs.Sharing.{OfPart}
use Rattle.contraction.specs.Stands.{AllBut, IsItem}
use Rattle.contraction.proofs.ItemSets.{Either}
use Rattle.short_equations.specs.declared.part_set.PartSet.{PartSet}
use Rattle.short_equations.specs.declared.part_set.PartSet.TheVariants.{Only, From, But}
use Rattle.interlock_terms.specs.declared.term.Term.{Term}
use Rattle.interlock_terms.specs.Terms.{Grew}
use Rattle.short_equations.specs.declared.edge.Edge.{Edge}
use Rattle.short_equations.specs.declared.view.View.{View}
use Rattle.short_equations.specs.PartItems.{PartBut}
use Rattle.short_equations.specs.ItemEdges.{AddsSight}
use Rattle.short_equations.specs.Fragments.{IsIn, InParts, StandsForItems, ComposedOf}
use Rattle.short_equations.specs.declared.pair.TermPair.{TermPair}
use Rattle.short_equations.specs.Pairs.{AreExactFrom}
use Rattle.short_equations.proofs.PartStepLemmas.{begins}
use Rattle.short_equations.proofs.FragmentLemmas.{stands_plain, stands_grew, stands_composed, stands_beside}

abbrev number_of : Item → ℕ
number_of (a_switch k) = k
number_of (a_link k) = k
number_of (a_tap k) = k

-- an item is of one part
pub one_part : (d : Diagram) (item : Item) (p q : ℕ) → OfPart d p item → OfPart d q item → p ≡ q
one_part d (a_switch i) p q (x, at, e) (y, there, f) =
    let same : x ≡ y = cc (at, there) in sym e ∙ (ap (λ (s : Switch). s.bay.0) same ∙ f)
one_part d (a_link i) p q (x, at, e) (y, there, f) =
    let same : x ≡ y = cc (at, there) in sym e ∙ (ap (λ (s : Link). s.part.0) same ∙ f)
one_part d (a_tap i) p q (x, at, e) (y, there, f) =
    let same : x ≡ y = cc (at, there) in sym e ∙ (ap (λ (s : Tap). s.part.0) same ∙ f)

-- sets that have no part in common have no item in common
pub apart_items : (d : Diagram) (set more : PartSet) → ((q : ℕ) → IsIn set q → IsIn more q → ⊥) → (item : Item) →
    InParts d set item → InParts d more item → ⊥
apart_items d set more none item (p, own, is) (q, too, in_more) =
    none p is (subst (IsIn more) (sym (one_part d item p q own too)) in_more)

pub wider_items : (d : Diagram) (set more : PartSet) → ((q : ℕ) → IsIn set q → IsIn more q) → (item : Item) →
    InParts d set item → InParts d more item
wider_items d set more to item (p, own, is) = (p, own, to p is)

pub either_items : (d : Diagram) (set more all : PartSet) → ((q : ℕ) → IsIn all q → IsIn set q ⊎ IsIn more q) →
    (item : Item) → InParts d all item → Either (InParts d set) (InParts d more) item
either_items d set more all cases item (p, own, is) = elim (cases p is) [
  | inl a ↦ inl (p, own, a)
  | inr b ↦ inr (p, own, b)
]

entry : {X : Type 0} (xs : List X) (i : ℕ) → i < length xs → (x : X) × (slice_get xs i ≡ Some x)
entry [] i low = absurd (omega (arith, low))
entry (x ∷ xs) zero low = (x, refl)
entry (x ∷ xs) (suc i) low = entry xs i (omega (arith, low))

-- each item of the station is of a part
pub some_part : (d : Diagram) (item : Item) → IsItem d item → (p : ℕ) × OfPart d p item
some_part d (a_switch i) is = let (x, at) = entry d.switches i is in (x.bay.0, (x, at, refl))
some_part d (a_link i) is = let (x, at) = entry d.links i is in (x.part.0, (x, at, refl))
some_part d (a_tap i) is = let (x, at) = entry d.taps i is in (x.part.0, (x, at, refl))

-- ALL ITEMS BUT ONE SWITCH: those of all other parts, and those of its part but it
module _ (d : Diagram) (i : ℕ) (x : Switch) (listed : slice_get d.switches i ≡ Some x) (part : BayId)
    (own : x.bay.0 ≡ part.0) where
  pub others_but : (item : Item) → InParts d (But part) item → AllBut (a_switch i) item
  others_but item (p, of, ne) e =
      ne (one_part d (a_switch i) p part.0 (subst (OfPart d p) e of) (x, listed, own))

  pub part_but : (item : Item) → PartBut d part.0 i item → AllBut (a_switch i) item
  part_but item (of, ne) = ne

  pub but_cases : (item : Item) → IsItem d item → AllBut (a_switch i) item →
      Either (InParts d (But part)) (PartBut d part.0 i) item
  but_cases item is ne =
      let (p, of) = some_part d item is in elim (cases_eq p part.0) [
        | inl e ↦ inr (subst (λ q. OfPart d q item) e of, ne)
        | inr far ↦ inl (p, of, far)
      ]

  pub but_apart : (item : Item) → InParts d (But part) item → PartBut d part.0 i item → ⊥
  but_apart item (p, of, ne) (too, other) = ne (one_part d item p part.0 of too)

-- a part without the switch of a number that there is none of
pub whole_part : (d : Diagram) (part : BayId) (skip : ℕ) → length d.switches ≤ skip → (item : Item) →
    InParts d (Only part) item → PartBut d part.0 skip item
whole_part d part skip high (a_switch i) (p, of, is) =
    let (x, at, bay) = of in
    let low = slice_get_within d.switches i x at in
    (subst (λ q. OfPart d q (a_switch i)) is of, λ e. let same : i ≡ skip = ap number_of e in omega (arith, low, high, same))
whole_part d part skip high (a_link i) (p, of, is) = (subst (λ q. OfPart d q (a_link i)) is of, λ e. cc)
whole_part d part skip high (a_tap i) (p, of, is) = (subst (λ q. OfPart d q (a_tap i)) is of, λ e. cc)

pub part_whole : (d : Diagram) (part : BayId) (skip : ℕ) (item : Item) → PartBut d part.0 skip item →
    InParts d (Only part) item
part_whole d part skip item (of, ne) = (part.0, of, refl)

-- the part of each item is one of the station's
pub part_low : (d : Diagram) → IsStation d → (item : Item) (p : ℕ) → OfPart d p item → p < part_count d
part_low d station (a_switch i) p (x, at, e) = subst (λ q. q < part_count d) e (station.items.switches_fit i x at).part_in
part_low d station (a_link i) p (x, at, e) = subst (λ q. q < part_count d) e (station.items.links_fit i x at).part_in
part_low d station (a_tap i) p (x, at, e) = subst (λ q. q < part_count d) e (station.items.taps_fit i x at).part_in

-- ---- what stands for sets of parts
pub stands_nobody : (view : View) (d : Diagram) → IsStation d → (terms : List Term) (set : PartSet) →
    ((p : ℕ) → p < part_count d → IsIn set p → ⊥) → StandsForItems view d terms (InParts d set) []
stands_nobody view d station terms set none =
    stands_plain view d terms (λ item. ⊥) (InParts d set) [] (begins view d (λ item. ⊥) (λ item k. k) terms [])
    (λ item k. absurd k) (λ item (p, of, is). none p (part_low d station item p of) is)

pub stands_two : (view : View) (d : Diagram) → IsStation d → (terms : List Term) (set more all : PartSet) →
    ((q : ℕ) → IsIn set q → IsIn all q) → ((q : ℕ) → IsIn more q → IsIn all q) →
    ((q : ℕ) → IsIn all q → IsIn set q ⊎ IsIn more q) → ((q : ℕ) → IsIn set q → IsIn more q → ⊥) →
    (first second new : List Edge) → StandsForItems view d terms (InParts d set) first →
    StandsForItems view d terms (InParts d more) second → ComposedOf d all terms first second new →
    StandsForItems view d terms (InParts d all) new
stands_two view d station terms set more all to too cases none first second new h k c =
    stands_composed view d station terms (InParts d set) (InParts d more) (InParts d all) (wider_items d set all to)
    (wider_items d more all too) (λ item is. either_items d set more all cases item) (apart_items d set more none) all first
    second new h k c (λ item own. own)

pub stands_own : (view : View) (d : Diagram) → IsStation d → (one two : List Term) → Grew one two → (part : BayId)
    (skip : ℕ) → length d.switches ≤ skip → (edges new : List Edge) →
    AddsSight view one [] (PartBut d part.0 skip) d edges → ComposedOf d (Only part) two edges [] new →
    StandsForItems view d two (InParts d (Only part)) new
stands_own view d station one two grew part skip high edges new adds c =
    stands_composed view d station two (InParts d (Only part)) (λ item. ⊥) (InParts d (Only part)) (λ item k. k)
    (λ item k. absurd k) (λ item is k. inl k) (λ item k none. none) (Only part) edges [] new
    (stands_grew view d one two (InParts d (Only part)) edges grew
    (stands_plain view d one (PartBut d part.0 skip) (InParts d (Only part)) edges adds (part_whole d part skip)
    (whole_part d part skip high)))
    (stands_plain view d two (λ item. ⊥) (λ item. ⊥) [] (begins view d (λ item. ⊥) (λ item k. k) two []) (λ item k. k)
    (λ item k. k)) c (λ item own. own)

pub stands_rest : (view : View) (d : Diagram) → IsStation d → (one two : List Term) → Grew one two → (i : ℕ)
    (x : Switch) → slice_get d.switches i ≡ Some x → (part : BayId) → x.bay.0 ≡ part.0 → (others new : List Edge) →
    StandsForItems view d one (InParts d (But part)) others → AddsSight view two others (PartBut d part.0 i) d new →
    StandsForItems view d two (AllBut (a_switch i)) new
stands_rest view d station one two grew i x listed part own others new h adds =
    stands_beside view d station two (InParts d (But part)) (PartBut d part.0 i) (AllBut (a_switch i))
    (others_but d i x listed part own) (part_but d i x listed part own) (but_cases d i x listed part own)
    (but_apart d i x listed part own) others new (stands_grew view d one two (InParts d (But part)) others grew h) adds

-- past the last part there is nothing
pub none_from : (d : Diagram) (part : ℕ) → part ≡ part_count d → (p : ℕ) → p < part_count d → IsIn (From part) p → ⊥
none_from d part e p low high = omega (arith, e, low, high)

pub no_switch_from : (view : View) (d : Diagram) → IsStation d → (terms : List Term) (part : ℕ) (pairs : List TermPair) →
    part ≡ part_count d → AreExactFrom view d terms part pairs
no_switch_from view d station terms part pairs e i x p at got high =
    let low = (station.items.switches_fit i x at).part_in in absurd (omega (arith, e, low, high))
