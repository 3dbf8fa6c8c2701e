-- The places of the switches, step by step.
use Rattle.std.proofs.Common.{◌≡◌, ℕ, ◌+◌, ◌<◌, List, length, slice_get, slice_set, Some, refl, sym, ap}
use Rattle.std.proofs.Common.{◌∙◌, subst, inl, inr, arith, length-set}
use Rattle.std.proofs.lemmas.Bool.{cases_eq}
use Rattle.std.proofs.lemmas.Option.{slice_get_within, same_Some}
use Rattle.ilk_base.specs.declared.words.SwitchId.{SwitchId}
use Rattle.station_graph.specs.Diagram.{Diagram}
use Rattle.station_graph.specs.Connection.{a_switch}
use Rattle.station_graph.proofs.PositionLemmas.{slice_get-set_other}
use Rattle.contraction.specs.Stands.{Among}
use Rattle.step_graphs.specs.declared.step.Step.{Step}
use Rattle.step_graphs.specs.declared.step.Step.TheVariants.{OfSwitch, OfLink, OfTap, OfNothing}
use Rattle.step_graphs.specs.Steps.{items_in, StepFits, TakesIn, AreSteps}
use Rattle.station_joints.specs.Together.{ArePlaces}
use Rattle.station_joints.specs.Taking.{ArePlaced, with_place, HasPlace}
use Rattle.station_joints.proofs.ListLemmas.{get-set}

pub place_fits : (d : Diagram) (s : Step) → StepFits d s → HasPlace s (length d.switches)
place_fits d (OfSwitch id) h = h
place_fits d (OfLink i) h = tt
place_fits d (OfTap i) h = tt
place_fits d OfNothing h = tt

pub place_long : (s : Step) (p : ℕ) (places : List ℕ) → length (with_place s p places) ≡ length places
place_long (OfSwitch id) p places = length-set places id.0 p
place_long (OfLink i) p places = refl
place_long (OfTap i) p places = refl
place_long OfNothing p places = refl

-- a step that takes in a switch
pub switch_step : (s : Step) (i : ℕ) → Among (items_in s) (a_switch i) →
    (id : SwitchId) × ((s ≡ OfSwitch id) × (id.0 ≡ i))
switch_step (OfSwitch id) i (inl e) = (id, (refl, cc))
switch_step (OfSwitch id) i (inr never) = absurd never
switch_step (OfLink k) i (inl e) = cc
switch_step (OfLink k) i (inr never) = absurd never
switch_step (OfTap k) i (inl e) = cc
switch_step (OfTap k) i (inr never) = absurd never
switch_step OfNothing i never = absurd never

-- a step of a switch takes it in
pub takes_switch : (steps : List Step) (p : ℕ) (id : SwitchId) → slice_get steps p ≡ Some (OfSwitch id) →
    TakesIn steps p (a_switch id.0)
takes_switch steps p id at = record { step = OfSwitch id; at = at; among = inl refl }

module _ (d : Diagram) (steps : List Step) (are : AreSteps d steps) where
  here_placed : (s : Step) (p : ℕ) (places : List ℕ) → slice_get steps p ≡ Some s →
      length places ≡ length d.switches → (i : ℕ) → TakesIn steps p (a_switch i) →
      slice_get (with_place s p places) i ≡ Some p
  here_placed s p places at long i t =
      let same : t.step ≡ s = same_Some t.step s (sym t.at ∙ at) in
      let (id, (is, number)) = switch_step s i (subst (λ (z : Step). Among (items_in z) (a_switch i)) same t.among) in
      let fits : id.0 < length d.switches = are.fit p (OfSwitch id) (at ∙ ap Some is) in
      let read : slice_get (slice_set places id.0 p) id.0 ≡ Some p =
      get-set places id.0 p (omega (arith, fits, long)) in
      subst (λ (z : Step). slice_get (with_place z p places) i ≡ Some p) (sym is)
      (subst (λ k. slice_get (slice_set places id.0 p) k ≡ Some p) number read)

  kept : (s : Step) (p : ℕ) (places : List ℕ) (i q : ℕ) → slice_get places i ≡ Some q →
      ¬ Among (items_in s) (a_switch i) → slice_get (with_place s p places) i ≡ Some q
  kept (OfSwitch id) p places i q at lacks =
      slice_get-set_other places id.0 i p (λ e. lacks (inl (ap a_switch e))) ∙ at
  kept (OfLink k) p places i q at lacks = at
  kept (OfTap k) p places i q at lacks = at
  kept OfNothing p places i q at lacks = at

  pub place_more : (s : Step) (p : ℕ) (places : List ℕ) → slice_get steps p ≡ Some s →
      length places ≡ length d.switches → ArePlaced steps p places → ArePlaced steps (p + 1) (with_place s p places)
  place_more s p places at long h q i lt t = elim (cases_eq q p) [
    | inl here ↦
        subst (λ k. slice_get (with_place s p places) i ≡ Some k) (sym here)
        (here_placed s p places at long i (subst (λ k. TakesIn steps k (a_switch i)) here t))
    | inr before ↦
        kept s p places i q (h q i (omega (arith, lt, before)) t)
        (λ among. before (are.once q p (a_switch i) t (record { step = s; at = at; among = among })))
  ]

  pub all_placed : (places : List ℕ) → length places ≡ length d.switches → ArePlaced steps (length steps) places →
      ArePlaces d steps places
  all_placed places long h = record {
    len = long;
    each = λ i p at.
        let (q, t) = are.each (a_switch i) (omega (arith, slice_get_within places i p at, long)) in
        let found : slice_get places i ≡ Some q = h q i (slice_get_within steps q t.step t.at) t in
        let same : q ≡ p = same_Some q p (sym found ∙ at) in
        subst (λ k. TakesIn steps k (a_switch i)) same t;
  }

pub none_placed : (steps : List Step) (places : List ℕ) → ArePlaced steps 0 places
none_placed steps places q i lt t = absurd (omega (arith, lt))

-- one more step
pub step_placed : (d : Diagram) (steps : List Step) (s : Step) (p : ℕ) (places next : List ℕ) → AreSteps d steps →
    next ≡ with_place s p places → slice_get steps p ≡ Some s → length places ≡ length d.switches →
    ArePlaced steps p places → (length next ≡ length d.switches) × ArePlaced steps (p + 1) next
step_placed d steps s p places next are is at long h = (
  ap length is ∙ place_long s p places ∙ long,
  subst (λ (l : List ℕ). ArePlaced steps (p + 1) l) (sym is) (place_more d steps are s p places at long h),
)

pub step_has_place : (d : Diagram) (steps : List Step) (s : Step) (p : ℕ) (places : List ℕ) → AreSteps d steps →
    slice_get steps p ≡ Some s → length places ≡ length d.switches → HasPlace s (length places)
step_has_place d steps s p places are at long =
    subst (λ k. HasPlace s k) (sym long) (place_fits d s (are.fit p s at))
