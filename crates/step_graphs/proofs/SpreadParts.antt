-- The items of a part of the spread diagram are those that the step at its place takes in.
use Rattle.std.proofs.Common.{◌≡◌, ℕ, ◌+◌, ◌<◌, zero, suc, List, [], ◌∷◌, length, slice_get, Some, refl, sym, ap, ◌∙◌}
use Rattle.std.proofs.Common.{subst, inl, inr, arith}
use Rattle.std.specs.Prelude.{◌⊎◌, ◌↔◌}
use Rattle.std.proofs.lemmas.Option.{slice_get_within, same_Some}
use Rattle.station_graph.specs.declared.items.Switch.{Switch}
use Rattle.station_graph.specs.declared.items.Link.{Link}
use Rattle.station_graph.specs.declared.items.Tap.{Tap}
use Rattle.station_graph.specs.Diagram.{Diagram}
use Rattle.station_graph.specs.Connection.{Item, a_switch, a_link, a_tap}
use Rattle.station_graph.specs.Sharing.{OfPart, TouchedBy}
use Rattle.contraction.specs.Stands.{Among, IsItem}
use Rattle.judge_pool.specs.Graphs.{other_of}
use Rattle.judge_pool.specs.Listing.{part_items, parts_before}
use Rattle.judge_pool.specs.Needing.{IsNeededOuter}
use Rattle.judge_intake.proofs.OtherLemmas.{element}
use Rattle.judge_intake.proofs.OuterLemmas.{part_has, has_part, before_has}
use Rattle.judge_intake.proofs.OuterFits.{before_to}
use Rattle.step_graphs.specs.declared.step.Step.{Step}
use Rattle.step_graphs.specs.declared.step.Step.TheVariants.{OfSwitch, OfLink, OfTap, OfNothing}
use Rattle.step_graphs.specs.Steps.{items_in, StepFits, TakesIn, AreSteps, StepTouches}
use Rattle.step_graphs.specs.Needing.{TouchedAt, TouchedBefore, TouchedFrom, IsNeeded}
use Rattle.step_graphs.proofs.SpreadViews.{touches_on}
use Rattle.step_graphs.proofs.Spread.{spread, spread_has, has_spread, place_of, place_takes, placed_of, placed_at}
use Rattle.step_graphs.proofs.Spread.{switch_at, link_at, tap_at, placed_length}

fits_item : (d : Diagram) (s : Step) (it : Item) → StepFits d s → Among (items_in s) it → IsItem d it
fits_item d (OfSwitch id) it fit (inl e) = subst (λ i. IsItem d i) (sym e) fit
fits_item d (OfSwitch id) it fit (inr never) = absurd never
fits_item d (OfLink k) it fit (inl e) = subst (λ i. IsItem d i) (sym e) fit
fits_item d (OfLink k) it fit (inr never) = absurd never
fits_item d (OfTap k) it fit (inl e) = subst (λ i. IsItem d i) (sym e) fit
fits_item d (OfTap k) it fit (inr never) = absurd never
fits_item d OfNothing it fit never = absurd never

pub item_in : (d : Diagram) (steps : List Step) (it : Item) → IsItem (spread d steps) it → IsItem d it
item_in d steps (a_switch i) h = omega (arith, h, placed_length (switch_at steps) 0 d.switches)
item_in d steps (a_link i) h = omega (arith, h, placed_length (link_at steps) 0 d.links)
item_in d steps (a_tap i) h = omega (arith, h, placed_length (tap_at steps) 0 d.taps)

nil : (i : ℕ) → 0 + i ≡ i
nil i = omega arith

module _ (d : Diagram) (steps : List Step) (are : AreSteps d steps) where
  pub taken_item : (q : ℕ) (it : Item) → TakesIn steps q it → IsItem d it
  taken_item q it t = fits_item d t.step it (are.fit q t.step t.at) t.among

  -- the place of an item of the station
  placed_here : (q : ℕ) (it : Item) → IsItem d it → place_of steps it ≡ q → TakesIn steps q it
  placed_here q it is e =
      let t = are.each it is in
      subst (λ k. TakesIn steps k it) e (place_takes steps it t.0 t.1)

  pub place_is : (q : ℕ) (it : Item) → TakesIn steps q it → place_of steps it ≡ q
  place_is q it t = are.once (place_of steps it) q it (place_takes steps it q t) t

  pub place_has : (q : ℕ) (it : Item) → OfPart (spread d steps) q it → TakesIn steps q it
  place_has q (a_switch i) (x, at, of_q) =
      let (y, there, is) = placed_of (switch_at steps) 0 d.switches i x at in
      let e : place_of steps (a_switch i) ≡ q =
      ap (λ k. place_of steps (a_switch k)) (sym (nil i)) ∙ (ap (λ (z : Switch). z.bay.0) is ∙ of_q) in
      placed_here q (a_switch i) (slice_get_within d.switches i y there) e
  place_has q (a_link i) (x, at, of_q) =
      let (y, there, is) = placed_of (link_at steps) 0 d.links i x at in
      let e : place_of steps (a_link i) ≡ q =
      ap (λ k. place_of steps (a_link k)) (sym (nil i)) ∙ (ap (λ (z : Link). z.part.0) is ∙ of_q) in
      placed_here q (a_link i) (slice_get_within d.links i y there) e
  place_has q (a_tap i) (x, at, of_q) =
      let (y, there, is) = placed_of (tap_at steps) 0 d.taps i x at in
      let e : place_of steps (a_tap i) ≡ q =
      ap (λ k. place_of steps (a_tap k)) (sym (nil i)) ∙ (ap (λ (z : Tap). z.part.0) is ∙ of_q) in
      placed_here q (a_tap i) (slice_get_within d.taps i y there) e

  pub has_place : (q : ℕ) (it : Item) → TakesIn steps q it → OfPart (spread d steps) q it
  has_place q (a_switch i) t =
      let (x, at) = element d.switches i (taken_item q (a_switch i) t) in (
        switch_at steps (0 + i) x,
        placed_at (switch_at steps) 0 d.switches i x at,
        ap (λ k. place_of steps (a_switch k)) (nil i) ∙ place_is q (a_switch i) t,
      )
  has_place q (a_link i) t =
      let (x, at) = element d.links i (taken_item q (a_link i) t) in (
        link_at steps (0 + i) x,
        placed_at (link_at steps) 0 d.links i x at,
        ap (λ k. place_of steps (a_link k)) (nil i) ∙ place_is q (a_link i) t,
      )
  has_place q (a_tap i) t =
      let (x, at) = element d.taps i (taken_item q (a_tap i) t) in (
        tap_at steps (0 + i) x,
        placed_at (tap_at steps) 0 d.taps i x at,
        ap (λ k. place_of steps (a_tap k)) (nil i) ∙ place_is q (a_tap i) t,
      )

  -- the items of the step at a place are those of the part
  pub to_items : (q : ℕ) (s : Step) (it : Item) → slice_get steps q ≡ Some s → Among (items_in s) it →
      Among (part_items (spread d steps) q) it
  to_items q s it at among =
      has_part (spread d steps) q it (has_place q it (record { step = s; at = at; among = among }))

  pub from_items : (q : ℕ) (s : Step) (it : Item) → slice_get steps q ≡ Some s →
      Among (part_items (spread d steps) q) it → Among (items_in s) it
  from_items q s it at among =
      let t = place_has q it (part_has (spread d steps) q it among) in
      subst (λ (z : Step). Among (items_in z) it) (same_Some t.step s (sym t.at ∙ at)) t.among

  touch_to : (q n : ℕ) → TouchedAt d steps q n → TouchedBy (OfPart (spread d steps) q) (spread d steps) n
  touch_to q n (s, at, t) = record {
    item = t.item;
    among = has_place q t.item (record { step = s; at = at; among = t.among });
    touches = touches_on d (spread d steps) (spread_has d steps) t.item n t.touches;
  }

  touch_from : (q n : ℕ) → TouchedBy (OfPart (spread d steps) q) (spread d steps) n → TouchedAt d steps q n
  touch_from q n t =
      let h = place_has q t.item t.among in (
        h.step,
        h.at,
        record {
          item = t.item;
          among = h.among;
          touches = touches_on (spread d steps) d (has_spread d steps) t.item n t.touches;
        },
      )

  listed_part : (q n : ℕ) → TouchedBy (OfPart (spread d steps) q) (spread d steps) n →
      TouchedBy (Among (part_items (spread d steps) q)) (spread d steps) n
  listed_part q n t = record {
    item = t.item;
    among = has_part (spread d steps) q t.item t.among;
    touches = t.touches;
  }

  part_listed : (q n : ℕ) → TouchedBy (Among (part_items (spread d steps) q)) (spread d steps) n →
      TouchedBy (OfPart (spread d steps) q) (spread d steps) n
  part_listed q n t = record {
    item = t.item;
    among = part_has (spread d steps) q t.item t.among;
    touches = t.touches;
  }

  -- what the step at a place touches is what the part does
  pub touch_part : (q n : ℕ) (s : Step) → slice_get steps q ≡ Some s → StepTouches d s n ↔
      TouchedBy (Among (part_items (spread d steps) q)) (spread d steps) n
  touch_part q n s at = (
    λ t. listed_part q n (touch_to q n (s, at, t)),
    λ t.
        let h = touch_from q n (part_listed q n t) in
        subst (λ (z : Step). StepTouches d z n) (same_Some h.0 s (sym h.1 ∙ at)) h.2,
  )

  needed_to : (b j n : ℕ) → IsNeeded d steps b j n → IsNeededOuter (spread d steps) b j n
  needed_to b j n h =
      let t = touch_to (other_of 0 b h.before.0) n h.before.2 in
      record {
        before = record {
          item = t.item;
          among = before_to (spread d steps) b j h.before.0 t.item h.before.1 t.among;
          touches = t.touches;
        };
        after = elim h.after [
          | inl own ↦ inl (touch_to b n own)
          | inr later ↦
              inr (later.0, later.1, listed_part (other_of 0 b later.0) n (touch_to (other_of 0 b later.0) n later.2))
        ];
      }

  needed_from : (b j n : ℕ) → IsNeededOuter (spread d steps) b j n → IsNeeded d steps b j n
  needed_from b j n h =
      let r = before_has (spread d steps) b j h.before.item h.before.among in
      record {
        before = (
          r.0,
          r.1,
          touch_from (other_of 0 b r.0) n (record {
            item = h.before.item;
            among = r.2;
            touches = h.before.touches;
          }),
        );
        after = elim h.after [
          | inl own ↦ inl (touch_from b n own)
          | inr later ↦
              inr (later.0, later.1, touch_from (other_of 0 b later.0) n (part_listed (other_of 0 b later.0) n later.2))
        ];
      }

  pub needed_same : (b j n : ℕ) → IsNeeded d steps b j n ↔ IsNeededOuter (spread d steps) b j n
  needed_same b j n = (needed_to b j n, needed_from b j n)
