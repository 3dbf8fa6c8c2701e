-- The station's items, part by part.
use Rattle.std.proofs.Common.{◌≡◌, ℕ, ◌⊎◌, Bool, List, refl, inl, inr}
use Rattle.station_graph.specs.Diagram.{Diagram}
use Rattle.station_graph.specs.Connection.{Item, a_switch, a_link, a_tap, ItemBetween, TouchingBy, Touching, Linked}
use Rattle.station_graph.specs.Sharing.{OfPart, TouchedBy, IsShared}
use Rattle.station_graph.proofs.LinkedLemmas.{linked_weaker}
use Rattle.station_graph.proofs.TouchLemmas.{touching_touches, touching_touches_end}
use Rattle.station_graph.proofs.WalkLemmas.{AnyOf, KeepsMeetings}

-- what each part joins
abbrev pub JoinsIn : Bool → Diagram → List Bool → ℕ → ℕ → ℕ → Type 0
JoinsIn bonds_only d v part = TouchingBy (OfPart d part) bonds_only d v

part_of : (bonds_only : Bool) (d : Diagram) (v : List Bool) (item : Item) (a b : ℕ) →
    ItemBetween bonds_only d v item a b → (part : ℕ) × OfPart d part item
part_of bonds_only d v (a_switch i) a b h = (h.switch.bay.0, (h.switch, h.listed, refl))
part_of bonds_only d v (a_link i) a b h = (h.link.part.0, (h.link, h.listed, refl))
part_of bonds_only d v (a_tap i) a b h = absurd h

in_some_part : (bonds_only : Bool) (d : Diagram) (v : List Bool) (a b : ℕ) → Touching bonds_only d v a b →
    AnyOf (JoinsIn bonds_only d v) a b
in_some_part bonds_only d v a b h =
    let p = part_of bonds_only d v h.item a b h.between in
    record { set = p.0; holds = record { item = h.item; among = p.1; between = h.between } }

-- the station joins what its parts join together
pub parts_from_station : (bonds_only : Bool) (d : Diagram) (v : List Bool) (a b : ℕ) →
    Linked (Touching bonds_only d v) a b → Linked (AnyOf (JoinsIn bonds_only d v)) a b
parts_from_station bonds_only d v = linked_weaker (Touching bonds_only d v) (AnyOf (JoinsIn bonds_only d v))
    (in_some_part bonds_only d v)

pub station_from_parts : (bonds_only : Bool) (d : Diagram) (v : List Bool) (a b : ℕ) →
    Linked (AnyOf (JoinsIn bonds_only d v)) a b → Linked (Touching bonds_only d v) a b
station_from_parts bonds_only d v =
    linked_weaker (AnyOf (JoinsIn bonds_only d v)) (Touching bonds_only d v) (λ a b h. record {
      item = h.holds.item;
      among = tt;
      between = h.holds.between;
    })

-- A node that matters to bay c in a part: the part touches it, and is c or shares it.
pub record MattersTo (d : Diagram) (c part n : ℕ) : Type 0 where
  pub here : TouchedBy (OfPart d part) d n
  pub why : (part ≡ c) ⊎ IsShared d part n

module _ (d : Diagram) (c : ℕ) where
  touched : (part n : ℕ) → TouchedBy (OfPart d part) d n ⊎ MattersTo d c part n → TouchedBy (OfPart d part) d n
  touched part n (inl t) = t
  touched part n (inr k) = k.here

  pub parts_meet : (bonds_only : Bool) (v : List Bool) →
      KeepsMeetings (JoinsIn bonds_only d v) (λ part n. TouchedBy (OfPart d part) d n) (MattersTo d c)
  parts_meet bonds_only v = record {
    from_touched = λ i a b h. touching_touches (OfPart d i) bonds_only d v a b h;
    to_touched = λ i a b h. touching_touches_end (OfPart d i) bonds_only d v a b h;
    kept = λ i j n ne t bi. record {
      here = t;
      why = inr (record { here = t; other = i; apart = ne; there = touched i n bi });
    };
  }
