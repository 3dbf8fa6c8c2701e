-- One view of two sets of the same items, in two diagrams that differ in parts alone.
use Rattle.std.proofs.Common.{ℕ, Bool, true, false, List}
use Rattle.ilk_base.specs.declared.words.Kind.{Kind}
use Rattle.station_graph.specs.Diagram.{Diagram}
use Rattle.station_graph.specs.Connection.{Item, a_switch, a_tap, TouchingBy, Linked, with_breakers_closed}
use Rattle.station_graph.specs.Views.{JoinedBy, BondedBy, CoupledBy, ClosedAtBy, HasTapBy, EnergisableBy, EarthableBy}
use Rattle.station_graph.specs.Views.{FedBy, TappedBy, Supply, bare, tapped, fed, SupplyBy, SameGapView, SameLoadView}
use Rattle.station_graph.proofs.LinkedLemmas.{linked_weaker}
use Rattle.judge_pool.specs.declared.view.View.{View}
use Rattle.judge_pool.specs.declared.view.View.TheVariants.{Gap, Load}
use Rattle.judge_pool.specs.Seen.{SameView}
use Rattle.step_graphs.proofs.SpreadViews.{HasItems, joined_on, bonded_on, coupled_on, energisable_on, earthable_on}
use Rattle.step_graphs.proofs.SpreadViews.{fed_on, tapped_on}

module _ (d e : Diagram) (has : HasItems d e) (These Those : Item → Type 0)
    (over : (item : Item) → These item → Those item) where
  linked_to : (bonds : Bool) (v : List Bool) (a b : ℕ) → Linked (TouchingBy These bonds d v) a b →
      Linked (TouchingBy Those bonds d v) a b
  linked_to bonds v = linked_weaker (TouchingBy These bonds d v) (TouchingBy Those bonds d v)
      (λ a b h. record { item = h.item; among = over h.item h.among; between = h.between })

  joined_to : (v : List Bool) (a b : ℕ) → JoinedBy These d v a b → JoinedBy Those e v a b
  joined_to v a b h = joined_on d e has Those v a b (linked_to false v a b h)

  bonded_to : (v : List Bool) (a b : ℕ) → BondedBy These d v a b → BondedBy Those e v a b
  bonded_to v a b h = bonded_on d e has Those v a b (linked_to true v a b h)

  coupled_to : (v : List Bool) (a b : ℕ) → CoupledBy These d v a b → CoupledBy Those e v a b
  coupled_to v a b h = coupled_on d e has Those v a b (linked_to false (with_breakers_closed d v) a b h)

  closed_to : (v : List Bool) (kind : Kind) (n : ℕ) → ClosedAtBy These d v kind n → ClosedAtBy Those d v kind n
  closed_to v kind n h = record { at = h.at; among = over (a_switch h.at.number) h.among }

  tap_to : (n : ℕ) → HasTapBy These d n → HasTapBy Those d n
  tap_to n h = record {
    number = h.number;
    tap = h.tap;
    listed = h.listed;
    stands = h.stands;
    among = over (a_tap h.number) h.among;
  }

  energisable_to : (v : List Bool) (n : ℕ) → EnergisableBy These d v n → EnergisableBy Those e v n
  energisable_to v n (m, c, at) =
      energisable_on d e has Those v n (m, linked_to false (with_breakers_closed d v) n m c, closed_to v _ m at)

  earthable_to : (v : List Bool) (n : ℕ) → EarthableBy These d v n → EarthableBy Those e v n
  earthable_to v n (m, c, at) =
      earthable_on d e has Those v n (m, linked_to false (with_breakers_closed d v) n m c, closed_to v _ m at)

  fed_to : (v : List Bool) (n : ℕ) → FedBy These d v n → FedBy Those e v n
  fed_to v n (m, c, at) = fed_on d e has Those v n (m, linked_to false v n m c, closed_to v _ m at)

  tapped_to : (v : List Bool) (n : ℕ) → TappedBy These d v n → TappedBy Those e v n
  tapped_to v n (m, c, at) = tapped_on d e has Those v n (m, linked_to false v n m c, tap_to m at)

module _ (d e : Diagram) (there : HasItems d e) (back : HasItems e d) (These Those : Item → Type 0)
    (to : (item : Item) → These item → Those item) (from : (item : Item) → Those item → These item) where
  supply_to : (v : List Bool) (n : ℕ) (s : Supply) → SupplyBy These d v n s → SupplyBy Those e v n s
  supply_to v n bare h = (
    λ x. h.0 (fed_to e d back Those These from v n x),
    λ x. h.1 (tapped_to e d back Those These from v n x),
  )
  supply_to v n tapped h =
      (λ x. h.0 (fed_to e d back Those These from v n x), tapped_to d e there These Those to v n h.1)
  supply_to v n fed h = fed_to d e there These Those to v n h

module _ (d e : Diagram) (there : HasItems d e) (back : HasItems e d) (These Those : Item → Type 0)
    (to : (item : Item) → These item → Those item) (from : (item : Item) → Those item → These item)
    (Kept Held : ℕ → Type 0) (kept : (n : ℕ) → Held n → Kept n) (v w : List Bool) where
  gap_to : SameGapView Kept These d v w → SameGapView Held Those e v w
  gap_to s = record {
    coupled = λ a b ka kb. (
      λ x. coupled_to d e there These Those to w a b
          ((s.coupled a b (kept a ka) (kept b kb)).0 (coupled_to e d back Those These from v a b x)),
      λ x. coupled_to d e there These Those to v a b
          ((s.coupled a b (kept a ka) (kept b kb)).1 (coupled_to e d back Those These from w a b x)),
    );
    energisable = λ a ka. (
      λ x. energisable_to d e there These Those to w a
          ((s.energisable a (kept a ka)).0 (energisable_to e d back Those These from v a x)),
      λ x. energisable_to d e there These Those to v a
          ((s.energisable a (kept a ka)).1 (energisable_to e d back Those These from w a x)),
    );
    earthable = λ a ka. (
      λ x. earthable_to d e there These Those to w a
          ((s.earthable a (kept a ka)).0 (earthable_to e d back Those These from v a x)),
      λ x. earthable_to d e there These Those to v a
          ((s.earthable a (kept a ka)).1 (earthable_to e d back Those These from w a x)),
    );
  }

  load_to : SameLoadView Kept These d v w → SameLoadView Held Those e v w
  load_to s = record {
    joined = λ a b ka kb. (
      λ x. joined_to d e there These Those to w a b
          ((s.joined a b (kept a ka) (kept b kb)).0 (joined_to e d back Those These from v a b x)),
      λ x. joined_to d e there These Those to v a b
          ((s.joined a b (kept a ka) (kept b kb)).1 (joined_to e d back Those These from w a b x)),
    );
    bonded = λ a b ka kb. (
      λ x. bonded_to d e there These Those to w a b
          ((s.bonded a b (kept a ka) (kept b kb)).0 (bonded_to e d back Those These from v a b x)),
      λ x. bonded_to d e there These Those to v a b
          ((s.bonded a b (kept a ka) (kept b kb)).1 (bonded_to e d back Those These from w a b x)),
    );
    supply = λ a ka z. (
      λ x. supply_to d e there back These Those to from w a z
          ((s.supply a (kept a ka) z).0 (supply_to e d back there Those These from to v a z x)),
      λ x. supply_to d e there back These Those to from v a z
          ((s.supply a (kept a ka) z).1 (supply_to e d back there Those These from to w a z x)),
    );
  }

  pub view_to : (view : View) → SameView view Kept These d v w → SameView view Held Those e v w
  view_to Gap s = gap_to s
  view_to Load s = load_to s
