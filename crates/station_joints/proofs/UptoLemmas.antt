-- One more switch, link or tap is taken in.
use Rattle.std.proofs.Common.{◌≡◌, ◌⊎◌, ℕ, ◌+◌, ◌<◌, List, [], ◌∷◌, ◌++◌, length, slice_get, Some, refl, sym, ap}
use Rattle.std.proofs.Common.{subst, inl, inr, arith}
use Rattle.std.proofs.lemmas.Bool.{cases_eq}
use Rattle.ilk_base.specs.declared.words.SwitchId.{SwitchId}
use Rattle.station_graph.specs.Diagram.{Diagram}
use Rattle.station_graph.specs.Connection.{Item, a_switch, a_link, a_tap}
use Rattle.step_graphs.specs.declared.step.Step.{Step}
use Rattle.step_graphs.specs.declared.step.Step.TheVariants.{OfSwitch, OfLink, OfTap, OfNothing}
use Rattle.step_graphs.specs.Steps.{TakesIn, AreSteps}
use Rattle.contraction.specs.Stands.{IsItem}
use Rattle.station_joints.specs.Taking.{Upto, HaveTaken}
use Rattle.station_joints.proofs.TakeLemmas.{take_one, take_none}

-- of nothing nothing is taken in
pub none_taken : (d : Diagram) (More : ℕ → Type 0) → ((i : ℕ) → ¬ More i) → HaveTaken d (Upto More 0 0 0) []
none_taken d More empty_more = record {
  each = each;
  only = λ p item t. absurd (empty p t.step t.at);
  once = λ p q item t u. absurd (empty p t.step t.at);
  fit = λ p s at. absurd (empty p s at);
}
  where
    empty : (p : ℕ) (s : Step) → slice_get [] p ≡ Some s → ⊥
    empty p s at = cc

    each : (item : Item) → Upto More 0 0 0 item → (p : ℕ) × TakesIn [] p item
    each (a_switch i) (inl lt) = absurd (omega (arith, lt))
    each (a_switch i) (inr more) = absurd (empty_more i more)
    each (a_link i) lt = absurd (omega (arith, lt))
    each (a_tap i) lt = absurd (omega (arith, lt))

module _ (d : Diagram) (More : ℕ → Type 0) (s l t : ℕ) (steps : List Step)
    (h : HaveTaken d (Upto More s l t) steps) where
  -- a switch that is not among the others
  pub switch_taken : (id : SwitchId) → id.0 ≡ s → s < length d.switches → ¬ More s →
      HaveTaken d (Upto More (s + 1) l t) (steps ++ OfSwitch id ∷ [])
  switch_taken id is lt fresh =
      take_one d (Upto More s l t) (Upto More (s + 1) l t) steps h (OfSwitch id) (a_switch s)
      (ap (λ i. a_switch i ∷ []) is) (subst (λ i. i < length d.switches) (sym is) lt) new more
      (inl (omega arith)) back
    where
      new : ¬ Upto More s l t (a_switch s)
      new (inl less) = omega (arith, less)
      new (inr m) = fresh m

      more : (item : Item) → Upto More s l t item → Upto More (s + 1) l t item
      more (a_switch i) (inl less) = inl (omega (arith, less))
      more (a_switch i) (inr m) = inr m
      more (a_link i) less = less
      more (a_tap i) less = less

      back : (item : Item) → Upto More (s + 1) l t item → Upto More s l t item ⊎ (item ≡ a_switch s)
      back (a_switch i) (inl less) = elim (cases_eq i s) [
        | inl e ↦ inr (ap a_switch e)
        | inr ne ↦ inl (inl (omega (arith, less, ne)))
      ]
      back (a_switch i) (inr m) = inl (inr m)
      back (a_link i) less = inl less
      back (a_tap i) less = inl less

  -- a switch that is among the others counts without a step
  pub switch_counted : More s → HaveTaken d (Upto More (s + 1) l t) steps
  switch_counted m = record {
    each = λ item those. h.each item (back item those);
    only = λ p item u. more item (h.only p item u);
    once = h.once;
    fit = h.fit;
  }
    where
      more : (item : Item) → Upto More s l t item → Upto More (s + 1) l t item
      more (a_switch i) (inl less) = inl (omega (arith, less))
      more (a_switch i) (inr x) = inr x
      more (a_link i) less = less
      more (a_tap i) less = less

      back : (item : Item) → Upto More (s + 1) l t item → Upto More s l t item
      back (a_switch i) (inl less) = elim (cases_eq i s) [
        | inl e ↦ inr (subst More (sym e) m)
        | inr ne ↦ inl (omega (arith, less, ne))
      ]
      back (a_switch i) (inr x) = inr x
      back (a_link i) less = less
      back (a_tap i) less = less

  pub link_taken : l < length d.links → HaveTaken d (Upto More s (l + 1) t) (steps ++ OfLink l ∷ [])
  link_taken lt =
      take_one d (Upto More s l t) (Upto More s (l + 1) t) steps h (OfLink l) (a_link l) refl lt
      (λ less. omega (arith, less)) more (omega arith) back
    where
      more : (item : Item) → Upto More s l t item → Upto More s (l + 1) t item
      more (a_switch i) x = x
      more (a_link i) less = omega (arith, less)
      more (a_tap i) less = less

      back : (item : Item) → Upto More s (l + 1) t item → Upto More s l t item ⊎ (item ≡ a_link l)
      back (a_switch i) x = inl x
      back (a_link i) less = elim (cases_eq i l) [
        | inl e ↦ inr (ap a_link e)
        | inr ne ↦ inl (omega (arith, less, ne))
      ]
      back (a_tap i) less = inl less

  pub tap_taken : t < length d.taps → HaveTaken d (Upto More s l (t + 1)) (steps ++ OfTap t ∷ [])
  tap_taken lt =
      take_one d (Upto More s l t) (Upto More s l (t + 1)) steps h (OfTap t) (a_tap t) refl lt
      (λ less. omega (arith, less)) more (omega arith) back
    where
      more : (item : Item) → Upto More s l t item → Upto More s l (t + 1) item
      more (a_switch i) x = x
      more (a_link i) less = less
      more (a_tap i) less = omega (arith, less)

      back : (item : Item) → Upto More s l (t + 1) item → Upto More s l t item ⊎ (item ≡ a_tap t)
      back (a_switch i) x = inl x
      back (a_link i) less = inl less
      back (a_tap i) less = elim (cases_eq i t) [
        | inl e ↦ inr (ap a_tap e)
        | inr ne ↦ inl (omega (arith, less, ne))
      ]

  pub nothing_taken : HaveTaken d (Upto More s l t) (steps ++ OfNothing ∷ [])
  nothing_taken =
      take_none d (Upto More s l t) (Upto More s l t) steps h (λ item x. x) (λ item x. x)

-- all items are taken in
pub all_taken : (d : Diagram) (More : ℕ → Type 0) (steps : List Step) →
    HaveTaken d (Upto More (length d.switches) (length d.links) (length d.taps)) steps → AreSteps d steps
all_taken d More steps h = record {
  each = λ item is. h.each item (among item is);
  once = h.once;
  fit = h.fit;
}
  where
    among : (item : Item) → IsItem d item → Upto More (length d.switches) (length d.links) (length d.taps) item
    among (a_switch i) lt = inl lt
    among (a_link i) lt = lt
    among (a_tap i) lt = lt
