-- The positions for which choices stand.
use Rattle.std.proofs.Common.{◌≡◌, ◌≢◌, ℕ, ◌-◌, ◌<◌, ◌≤◌, zero, suc, Bool, true, false, eqb, ltb, List, [], ◌∷◌, length, map}
use Rattle.std.proofs.Common.{get_or, slice_get, Some, refl, sym, ap, ◌∙◌, subst, inl, inr, arith, ne_eqb, eq-eqb}
use Rattle.std.specs.Prelude.{if◌then◌else◌}
use Rattle.std.proofs.lemmas.List.{length-map}
use borrow.Author.Tests.{lt-ltb, ltb-true}
use Rattle.std.proofs.lemmas.Bool.{cases_eq, cases_Bool}
use Rattle.std.proofs.lemmas.Option.{slice_get_within, same_Some, slice_get-get_or, get_or_from_slice_get}
use Rattle.ilk_base.specs.declared.words.SwitchId.{SwitchId}
use Rattle.station_graph.specs.Diagram.{Diagram, IsStation}
use Rattle.station_graph.specs.Connection.{a_switch}
use Rattle.contraction.specs.Stands.{Among}
use Rattle.station_changes.specs.Compare.{SameSwitch, IsJoint, IsIsolated}
use Rattle.judge_pool.specs.Graphs.{other_of}
use Rattle.judge_intake.proofs.OtherLemmas.{other_cases, own_place, switch_not, element}
use Rattle.step_graphs.specs.declared.step.Step.{Step}
use Rattle.step_graphs.specs.declared.step.Step.TheVariants.{OfSwitch, OfLink, OfTap, OfNothing}
use Rattle.step_graphs.specs.Steps.{items_in, StepFits, TakesIn, AreSteps, HasPosition}
use Rattle.step_graphs.specs.Moved.{AreGiven}
use Rattle.station_joints.specs.Together.{AreTogether, IsAlone, AreJointSteps, ArePlaces, AreJointlyGiven, AreIsolating}
use Rattle.station_joints.specs.Chosen.{layer_of, closed_at}
use Rattle.station_joints.proofs.ListLemmas.{map-to}
use Rattle.station_joints.proofs.PairLemmas.{same_one}
use Rattle.station_joints.proofs.PlaceLemmas.{switch_step, takes_switch}
use Rattle.station_joints.proofs.ChoiceLemmas.{one_place}

test_is : (t : Bool) (p : ℕ) → t ≡ true → (if t then p else p - 1) ≡ p
test_is t p e = ap (λ (x : Bool). if x then p else p - 1) e

test_not : (t : Bool) (p : ℕ) → t ≡ false → (if t then p else p - 1) ≡ p - 1
test_not t p e = ap (λ (x : Bool). if x then p else p - 1) e

not_less : (p b : ℕ) → b ≤ p → ltb p b ≡ false
not_less p b le = elim (cases_Bool (ltb p b)) [
  | inl less ↦ absurd (omega (arith, ltb-true p b less, le))
  | inr more ↦ more
]

layer_back : (b j : ℕ) → layer_of b (other_of 0 b j) ≡ j
layer_back b j = elim (other_cases 0 b j) [
  | inl x ↦
      test_is (ltb (other_of 0 b j) b) (other_of 0 b j)
      (lt-ltb (other_of 0 b j) b (omega (arith, x.0, x.1)))
      ∙ omega (arith, x.1)
  | inr x ↦
      test_not (ltb (other_of 0 b j) b) (other_of 0 b j)
      (not_less (other_of 0 b j) b (omega (arith, x.0, x.1)))
      ∙ omega (arith, x.1)
]

closed_other : (b : ℕ) (cs : List ℕ) (p j c : ℕ) → other_of 0 b j ≡ p → slice_get cs j ≡ Some c →
    closed_at b cs p ≡ eqb c 1
closed_other b cs p j c is at =
    let apart : p ≢ b = λ e. switch_not 0 b j (is ∙ e) in
    let layer : layer_of b p ≡ j = ap (layer_of b) (sym is) ∙ layer_back b j in
    ap (λ (t : Bool). if t then false else eqb (get_or cs (layer_of b p) 0) 1) (ne_eqb p b apart)
    ∙ ap (λ k. eqb (get_or cs k 0) 1) layer
    ∙ ap (λ k. eqb k 1) (get_or_from_slice_get cs j c 0 at)

closed_own : (b : ℕ) (cs : List ℕ) (p : ℕ) → p ≡ b → closed_at b cs p ≡ false
closed_own b cs p e =
    ap (λ (t : Bool). if t then false else eqb (get_or cs (layer_of b p) 0) 1) (eq-eqb p b e)

module _ (d : Diagram) (steps : List Step) (are : AreSteps d steps) (places : List ℕ)
    (placed : ArePlaces d steps places) (b : ℕ) (cs : List ℕ) where
  closed_list : List Bool
  closed_list = map (closed_at b cs) places

  pub closed_long : length (map (closed_at b cs) places) ≡ length d.switches
  closed_long = length-map places (closed_at b cs) ∙ placed.len

  pub closed_there : (i p : ℕ) → TakesIn steps p (a_switch i) → i < length d.switches →
      slice_get (map (closed_at b cs) places) i ≡ Some (closed_at b cs p)
  closed_there i p t lt =
      let (q, at) = element places i (omega (arith, lt, placed.len)) in
      let same : q ≡ p = are.once q p (a_switch i) (placed.each i q at) t in
      map-to (closed_at b cs) places i q at ∙ ap (λ k. Some (closed_at b cs k)) same

  pub closed_given : suc (length cs) ≡ length steps → ((j c : ℕ) → slice_get cs j ≡ Some c → c < 2) →
      AreGiven steps b (map (closed_at b cs) places) cs
  closed_given count small = record { count = count; small = small; each = each }
    where
      each : (j c : ℕ) (s : Step) → slice_get cs j ≡ Some c → slice_get steps (other_of 0 b j) ≡ Some s →
          HasPosition s (map (closed_at b cs) places) (eqb c 1)
      each j c (OfSwitch id) at at_s =
          closed_there id.0 (other_of 0 b j) (takes_switch steps (other_of 0 b j) id at_s)
          (are.fit (other_of 0 b j) (OfSwitch id) at_s)
          ∙ ap Some (closed_other b cs (other_of 0 b j) j c refl at)
      each j c (OfLink k) at at_s = tt
      each j c (OfTap k) at at_s = tt
      each j c OfNothing at at_s = tt

  -- where the choice of a switch is 0, it is open
  pub open_there : (i p : ℕ) → suc (length cs) ≡ length steps → b < length steps →
      TakesIn steps p (a_switch i) → i < length d.switches →
      ((j c : ℕ) → other_of 0 b j ≡ p → slice_get cs j ≡ Some c → c ≡ 0) →
      slice_get (map (closed_at b cs) places) i ≡ Some false
  open_there i p count in_b t lt zeros = closed_there i p t lt ∙ ap Some (elim (cases_eq p b) [
    | inl own ↦ closed_own b cs p own
    | inr other ↦
        let (j, in_j, is) = own_place 0 b (length cs) p (omega arith) (omega (arith, count, in_b)) (omega arith)
        (omega (arith, count, slice_get_within steps p t.step t.at)) other in
        let (c, at) = element cs j in_j in
        closed_other b cs p j c is at ∙ ap (λ k. eqb k 1) (zeros j c is at)
  ])

module _ (o n : Diagram) (ss ts : List Step) (j : AreJointSteps o n ss ts) (is : IsStation n) (us vs : List ℕ)
    (old_at : ArePlaces o ss us) (new_at : ArePlaces n ts vs) (b : ℕ) (cs : List ℕ) where
  pub closed_joint : IsJoint o n (map (closed_at b cs) us) (map (closed_at b cs) vs)
  closed_joint = record {
    old = closed_long o ss j.old_all us old_at b cs;
    new = closed_long n ts j.new_all vs new_at b cs;
    agree = λ i k same.
        let in_i = slice_get_within o.switches i same.old same.old_at in
        let in_k = slice_get_within n.switches k same.new same.new_at in
        let (p, t) = j.old_all.each (a_switch i) in_i in
        closed_there o ss j.old_all us old_at b cs i p t in_i
        ∙ sym (closed_there n ts j.new_all vs new_at b cs k p (one_place o n ss ts p i k is j same t) in_k);
  }

  pub closed_isolated : suc (length cs) ≡ length ss → b < length ss → AreIsolating ss ts b cs →
      IsIsolated o n (map (closed_at b cs) us) (map (closed_at b cs) vs)
  closed_isolated count in_b iso = record {
    old = λ i in_i none.
        let (p, t) = j.old_all.each (a_switch i) in_i in
        open_there o ss j.old_all us old_at b cs i p count in_b t in_i (λ k c at_p at.
        let (s, at_s) = element ts p (omega (arith, slice_get_within ss p t.step t.at, j.len)) in
        iso k c t.step s at (ap (λ q. slice_get ss q) at_p ∙ t.at) (ap (λ q. slice_get ts q) at_p ∙ at_s)
        (old_alone i none t.step s t.among (j.together p t.step s t.at at_s)));
    new = λ i in_i none.
        let (p, t) = j.new_all.each (a_switch i) in_i in
        open_there n ts j.new_all vs new_at b cs i p (count ∙ j.len) (omega (arith, in_b, j.len)) t in_i
        (λ k c at_p at.
        let (s, at_s) = element ss p (omega (arith, slice_get_within ts p t.step t.at, j.len)) in
        iso k c s t.step at (ap (λ q. slice_get ss q) at_p ∙ at_s) (ap (λ q. slice_get ts q) at_p ∙ t.at)
        (new_alone i none s t.step t.among (j.together p s t.step at_s t.at)));
  }
    where
      old_alone : (i : ℕ) → ((k : ℕ) → ¬ SameSwitch o n i k) → (s t : Step) → Among (items_in s) (a_switch i) →
          AreTogether o n s t → IsAlone s t
      old_alone i none (OfSwitch x) (OfSwitch y) (inl e) same =
          let number : i ≡ x.0 = cc in absurd (none y.0 (subst (λ m. SameSwitch o n m y.0) (sym number) same))
      old_alone i none (OfSwitch x) OfNothing among lacks = tt
      old_alone i none (OfSwitch x) (OfLink y) among never = absurd never
      old_alone i none (OfSwitch x) (OfTap y) among never = absurd never
      old_alone i none (OfSwitch x) (OfSwitch y) (inr never) same = absurd never
      old_alone i none (OfLink x) t (inl e) together = cc
      old_alone i none (OfLink x) t (inr never) together = absurd never
      old_alone i none (OfTap x) t (inl e) together = cc
      old_alone i none (OfTap x) t (inr never) together = absurd never
      old_alone i none OfNothing t never together = absurd never

      new_alone : (k : ℕ) → ((i : ℕ) → ¬ SameSwitch o n i k) → (s t : Step) → Among (items_in t) (a_switch k) →
          AreTogether o n s t → IsAlone s t
      new_alone k none (OfSwitch x) (OfSwitch y) (inl e) same =
          let number : k ≡ y.0 = cc in absurd (none x.0 (subst (λ m. SameSwitch o n x.0 m) (sym number) same))
      new_alone k none (OfSwitch x) (OfSwitch y) (inr never) same = absurd never
      new_alone k none OfNothing (OfSwitch y) among lacks = tt
      new_alone k none (OfLink x) (OfSwitch y) among never = absurd never
      new_alone k none (OfTap x) (OfSwitch y) among never = absurd never
      new_alone k none s (OfLink y) (inl e) together = cc
      new_alone k none s (OfLink y) (inr never) together = absurd never
      new_alone k none s (OfTap y) (inl e) together = cc
      new_alone k none s (OfTap y) (inr never) together = absurd never
      new_alone k none s OfNothing never together = absurd never

-- each place is one of the layers or the moved one
pub places_within : (d : Diagram) (steps : List Step) (places cs : List ℕ) → ArePlaces d steps places →
    suc (length cs) ≡ length steps → (i p : ℕ) → slice_get places i ≡ Some p → p ≤ length cs
places_within d steps places cs placed count i p at =
    let t = placed.each i p at in
    omega (arith, slice_get_within steps p t.step t.at, count)

module _ (o n : Diagram) (ss ts : List Step) (j : AreJointSteps o n ss ts) (is : IsStation n) (us vs : List ℕ)
    (old_at : ArePlaces o ss us) (new_at : ArePlaces n ts vs) (b : ℕ) (cs : List ℕ) (u v : List Bool)
    (old_is : u ≡ map (closed_at b cs) us) (new_is : v ≡ map (closed_at b cs) vs) where
  pub vectors_joint : IsJoint o n u v
  vectors_joint =
      subst (λ (x : List Bool). IsJoint o n x v) (sym old_is)
      (subst (λ (y : List Bool). IsJoint o n (map (closed_at b cs) us) y) (sym new_is)
      (closed_joint o n ss ts j is us vs old_at new_at b cs))

  pub vectors_given : suc (length cs) ≡ length ss → ((i c : ℕ) → slice_get cs i ≡ Some c → c < 2) →
      AreJointlyGiven ss ts b u v cs
  vectors_given count small = record {
    old_given =
        subst (λ (x : List Bool). AreGiven ss b x cs) (sym old_is)
        (closed_given o ss j.old_all us old_at b cs count small);
    new_given =
        subst (λ (x : List Bool). AreGiven ts b x cs) (sym new_is)
        (closed_given n ts j.new_all vs new_at b cs (count ∙ j.len) small);
  }

  pub vectors_isolated : suc (length cs) ≡ length ss → b < length ss → AreIsolating ss ts b cs → IsIsolated o n u v
  vectors_isolated count in_b iso =
      subst (λ (x : List Bool). IsIsolated o n x v) (sym old_is)
      (subst (λ (y : List Bool). IsIsolated o n (map (closed_at b cs) us) y) (sym new_is)
      (closed_isolated o n ss ts j is us vs old_at new_at b cs count in_b iso))
