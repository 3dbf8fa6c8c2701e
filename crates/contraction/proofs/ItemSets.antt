-- Sets of items: what a value stands for depends on which items of the station are in the set.
use Rattle.std.proofs.Common.{◌≡◌, ℕ, ◌⊎◌, ◌↔◌, Bool, true, false, List, [], ◌∷◌, ◌++◌, inl, inr}
use Rattle.std.proofs.lemmas.Option.{slice_get_within}
use Rattle.ilk_base.specs.declared.words.Kind.{Kind}
use Rattle.ilk_base.specs.declared.words.Kind.TheVariants.{Earthing, Infeed}
use Rattle.station_graph.specs.Diagram.{Diagram}
use Rattle.station_graph.specs.Connection.{Item, a_switch, a_link, a_tap, ItemBetween, TouchingBy, Linked}
use Rattle.station_graph.specs.Connection.{with_breakers_closed}
use Rattle.station_graph.specs.Views.{ClosedAtBy, HasTapBy, FedBy, TappedBy}
use Rattle.station_graph.proofs.LinkedLemmas.{linked_weaker}
use Rattle.contraction.specs.Answers.{Answers}
use Rattle.contraction.specs.Stands.{Among, IsItem, GapStandsFor, LoadStandsFor, StandsFor}

-- two sets of items together
abbrev pub Either : (Item → Type 0) → (Item → Type 0) → Item → Type 0
Either These Those item = These item ⊎ Those item

pub among_first : (xs ys : List Item) (item : Item) → Among xs item → Among (xs ++ ys) item
among_first [] ys item h = absurd h
among_first (x ∷ xs) ys item (inl e) = inl e
among_first (x ∷ xs) ys item (inr h) = inr (among_first xs ys item h)

pub among_second : (xs ys : List Item) (item : Item) → Among ys item → Among (xs ++ ys) item
among_second [] ys item h = h
among_second (x ∷ xs) ys item h = inr (among_second xs ys item h)

among_cases : (xs ys : List Item) (item : Item) → Among (xs ++ ys) item → Either (Among xs) (Among ys) item
among_cases [] ys item h = inr h
among_cases (x ∷ xs) ys item (inl e) = inl (inl e)
among_cases (x ∷ xs) ys item (inr h) = elim (among_cases xs ys item h) [ inl a ↦ inl (inr a) | inr a ↦ inr a ]

-- the items of two lists are those of the lists in a row
pub among_both : (xs ys : List Item) (item : Item) → Either (Among xs) (Among ys) item ↔ Among (xs ++ ys) item
among_both xs ys item = (
  λ h. elim h [ inl a ↦ among_first xs ys item a | inr a ↦ among_second xs ys item a ],
  among_cases xs ys item,
)

-- what joins two nodes is an item of the station
between_item : (bonds_only : Bool) (d : Diagram) (v : List Bool) (item : Item) (a b : ℕ) →
    ItemBetween bonds_only d v item a b → IsItem d item
between_item bonds_only d v (a_switch i) a b h = slice_get_within d.switches i h.switch h.listed
between_item bonds_only d v (a_link i) a b h = slice_get_within d.links i h.link h.listed
between_item bonds_only d v (a_tap i) a b h = absurd h

-- the second set has what the first has of the station's items
module _ (These Those : Item → Type 0) (d : Diagram)
    (over : (item : Item) → IsItem d item → These item → Those item) where
  linked_over : (bonds_only : Bool) (v : List Bool) (a b : ℕ) → Linked (TouchingBy These bonds_only d v) a b →
      Linked (TouchingBy Those bonds_only d v) a b
  linked_over bonds_only v = linked_weaker (TouchingBy These bonds_only d v) (TouchingBy Those bonds_only d v)
      (λ a b h. record {
        item = h.item;
        among = over h.item (between_item bonds_only d v h.item a b h.between) h.among;
        between = h.between;
      })

  closed_over : (v : List Bool) (kind : Kind) (n : ℕ) → ClosedAtBy These d v kind n → ClosedAtBy Those d v kind n
  closed_over v kind n h = record {
    at = h.at;
    among = over (a_switch h.at.number) (slice_get_within d.switches h.at.number h.at.switch h.at.listed) h.among;
  }

  tap_over : (n : ℕ) → HasTapBy These d n → HasTapBy Those d n
  tap_over n h = record {
    number = h.number;
    tap = h.tap;
    listed = h.listed;
    stands = h.stands;
    among = over (a_tap h.number) (slice_get_within d.taps h.number h.tap h.listed) h.among;
  }

  to_closed_over : (u v : List Bool) (kind : Kind) (n : ℕ) →
      (m : ℕ) × Linked (TouchingBy These false d u) n m × ClosedAtBy These d v kind m →
      (m : ℕ) × Linked (TouchingBy Those false d u) n m × ClosedAtBy Those d v kind m
  to_closed_over u v kind n (m, l, at) = (m, linked_over false u n m l, closed_over v kind m at)

  loaded_over : (v : List Bool) (n : ℕ) → FedBy These d v n ⊎ TappedBy These d v n →
      FedBy Those d v n ⊎ TappedBy Those d v n
  loaded_over v n (inl (m, l, at)) = inl (m, linked_over false v n m l, closed_over v Infeed m at)
  loaded_over v n (inr (m, l, at)) = inr (m, linked_over false v n m l, tap_over m at)

-- A VALUE STANDS FOR EACH SET WITH THE SAME ITEMS OF THE STATION
module _ (These Those : Item → Type 0) (d : Diagram) (v : List Bool) (c : Answers)
    (same : (item : Item) → IsItem d item → These item ↔ Those item) where
  there : (item : Item) → IsItem d item → These item → Those item
  there item is = (same item is).0

  back : (item : Item) → IsItem d item → Those item → These item
  back item is = (same item is).1

  abbrev breakers : List Bool
  breakers = with_breakers_closed d v

  pub gap_over : GapStandsFor These d v c → GapStandsFor Those d v c
  gap_over s = record {
    coupled = λ a b ka kb. (
      λ h. linked_over These Those d there false breakers a b ((s.coupled a b ka kb).0 h),
      λ h. (s.coupled a b ka kb).1 (linked_over Those These d back false breakers a b h),
    );
    energisable = λ a ka. (
      λ h. to_closed_over These Those d there breakers v Infeed a ((s.energisable a ka).0 h),
      λ h. (s.energisable a ka).1 (to_closed_over Those These d back breakers v Infeed a h),
    );
    earthable = λ a ka. (
      λ h. to_closed_over These Those d there breakers v Earthing a ((s.earthable a ka).0 h),
      λ h. (s.earthable a ka).1 (to_closed_over Those These d back breakers v Earthing a h),
    );
  }

  pub load_over : LoadStandsFor These d v c → LoadStandsFor Those d v c
  load_over s = record {
    joined = λ a b ka kb. (
      λ h. linked_over These Those d there false v a b ((s.joined a b ka kb).0 h),
      λ h. (s.joined a b ka kb).1 (linked_over Those These d back false v a b h),
    );
    bonded = λ a b ka kb. (
      λ h. linked_over These Those d there true v a b ((s.bonded a b ka kb).0 h),
      λ h. (s.bonded a b ka kb).1 (linked_over Those These d back true v a b h),
    );
    fed = λ a ka. (
      λ h. to_closed_over These Those d there v v Infeed a ((s.fed a ka).0 h),
      λ h. (s.fed a ka).1 (to_closed_over Those These d back v v Infeed a h),
    );
    loaded = λ a ka. (
      λ h. loaded_over These Those d there v a ((s.loaded a ka).0 h),
      λ h. (s.loaded a ka).1 (loaded_over Those These d back v a h),
    );
  }

  pub stands_over : StandsFor These d v c → StandsFor Those d v c
  stands_over s = record { gap = gap_over s.gap; load = load_over s.load }

-- a list of one item has that item alone
pub among_one : (x item : Item) → (item ≡ x) ↔ Among (x ∷ []) item
among_one x item = (λ e. inl e, λ h. elim h [ inl e ↦ e | inr none ↦ absurd none ])
