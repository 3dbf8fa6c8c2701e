-- In each view: the sight of fewer items, of none, and of two sets together.
use Rattle.std.proofs.Common.{◌↔◌, ℕ, Bool, true, false, List, inl, inr}
use Rattle.std.proofs.lemmas.Option.{slice_get_within}
use Rattle.ilk_base.specs.declared.words.Kind.{Kind}
use Rattle.ilk_base.specs.declared.words.Kind.TheVariants.{Earthing, Infeed}
use Rattle.station_graph.specs.Diagram.{Diagram}
use Rattle.station_graph.specs.Connection.{Item, a_switch, a_link, a_tap, ItemBetween, TouchingBy, with_breakers_closed}
use Rattle.station_graph.specs.Views.{ClosedAtBy, HasTapBy}
use Rattle.contraction.specs.Stands.{IsItem}
use Rattle.contraction.proofs.ItemSets.{Either}
use Rattle.short_equations.specs.declared.view.View.{View}
use Rattle.short_equations.specs.declared.view.View.TheVariants.{Gap, Load, Bond}
use Rattle.short_equations.specs.Standing.{Or}
use Rattle.short_equations.specs.Sights.{SightBy}
use Rattle.short_equations.proofs.SightLemmas.{gap_either, load_either, bond_either}

-- what joins two nodes is an item of the station
between_item : (bonds_only : Bool) (d : Diagram) (v : List Bool) (item : Item) (a b : ℕ) →
    ItemBetween bonds_only d v item a b → IsItem d item
between_item bonds_only d v (a_switch i) a b h = slice_get_within d.switches i h.switch h.listed
between_item bonds_only d v (a_link i) a b h = slice_get_within d.links i h.link h.listed
between_item bonds_only d v (a_tap i) a b h = absurd h

module _ (These Those : Item → Type 0) (d : Diagram) (to : (item : Item) → IsItem d item → These item → Those item) where
  touching_fewer : (bonds_only : Bool) (w : List Bool) (a b : ℕ) → TouchingBy These bonds_only d w a b →
      TouchingBy Those bonds_only d w a b
  touching_fewer bonds_only w a b h = record {
    item = h.item;
    among = to h.item (between_item bonds_only d w h.item a b h.between) h.among;
    between = h.between;
  }

  closed_fewer : (v : List Bool) (kind : Kind) (n : ℕ) → ClosedAtBy These d v kind n → ClosedAtBy Those d v kind n
  closed_fewer v kind n h = record {
    at = h.at;
    among = to (a_switch h.at.number) (slice_get_within d.switches h.at.number h.at.switch h.at.listed) h.among;
  }

  tap_fewer : (n : ℕ) → HasTapBy These d n → HasTapBy Those d n
  tap_fewer n h = record {
    number = h.number;
    tap = h.tap;
    listed = h.listed;
    stands = h.stands;
    among = to (a_tap h.number) (slice_get_within d.taps h.number h.tap h.listed) h.among;
  }

  -- THE SIGHT OF FEWER ITEMS
  pub sight_fewer : (view : View) (v : List Bool) (a b : ℕ) → SightBy view These d v a b → SightBy view Those d v a b
  sight_fewer Gap v a b (inl t) = inl (touching_fewer false (with_breakers_closed d v) a b t)
  sight_fewer Gap v a b (inr h) = inr (
    h.0,
    elim h.1 [
      | inl c ↦ inl (c.0, closed_fewer v Infeed a c.1)
      | inr c ↦ inr (c.0, closed_fewer v Earthing a c.1)
    ],
  )
  sight_fewer Load v a b (inl t) = inl (touching_fewer false v a b t)
  sight_fewer Load v a b (inr h) = inr (
    h.0,
    elim h.1 [
      | inl c ↦ inl (c.0, closed_fewer v Infeed a c.1)
      | inr c ↦ inr (c.0, tap_fewer a c.1)
    ],
  )
  sight_fewer Bond v a b t = touching_fewer true v a b t

-- no items, no sight
pub sight_nothing : (view : View) (These : Item → Type 0) → ((item : Item) → These item → ⊥) → (d : Diagram)
    (v : List Bool) (a b : ℕ) → SightBy view These d v a b → ⊥
sight_nothing Gap These none d v a b (inl t) = none t.item t.among
sight_nothing Gap These none d v a b (inr h) = elim h.1 [
  | inl c ↦ let m = c.1 in none (a_switch m.at.number) m.among
  | inr c ↦ let m = c.1 in none (a_switch m.at.number) m.among
]
sight_nothing Load These none d v a b (inl t) = none t.item t.among
sight_nothing Load These none d v a b (inr h) = elim h.1 [
  | inl c ↦ let m = c.1 in none (a_switch m.at.number) m.among
  | inr c ↦ let m = c.1 in none (a_tap m.number) m.among
]
sight_nothing Bond These none d v a b t = none t.item t.among

-- THE SIGHT OF TWO SETS OF ITEMS TOGETHER
pub sight_either : (view : View) (These Those : Item → Type 0) (d : Diagram) (v : List Bool) (a b : ℕ) →
    SightBy view (Either These Those) d v a b ↔ Or (SightBy view These d v) (SightBy view Those d v) a b
sight_either Gap These Those d v a b = gap_either These Those d v a b
sight_either Load These Those d v a b = load_either These Those d v a b
sight_either Bond These Those d v a b = bond_either These Those d v a b
