-- Positions and the choices that stand for them.
use Rattle.std.proofs.Common.{◌≡◌, ◌≢◌, ℕ, ◌-◌, ◌<◌, ◌≤◌, zero, suc, Bool, true, false, eqb, ltb, List, [], ◌∷◌, length, map}
use Rattle.std.proofs.Common.{get_or, slice_get, Some, refl, sym, ap, ◌∙◌, subst, inl, inr, arith, ne_eqb, eq-eqb}
use Rattle.std.specs.Prelude.{if◌then◌else◌}
use Rattle.std.proofs.lemmas.List.{length-map}
use borrow.Author.Tests.{lt-ltb, ltb-true}
use Rattle.std.proofs.lemmas.Bool.{cases_eq, cases_Bool}
use Rattle.std.proofs.lemmas.Option.{slice_get_within, same_Some, slice_get-get_or, get_or_from_slice_get}
use Rattle.ilk_base.specs.declared.words.SwitchId.{SwitchId}
use Rattle.station_graph.specs.Diagram.{Diagram, IsStation}
use Rattle.station_graph.specs.Connection.{a_switch}
use Rattle.contraction.specs.Stands.{Among}
use Rattle.station_changes.specs.Compare.{SameSwitch, IsJoint, IsIsolated}
use Rattle.judge_pool.specs.Graphs.{other_of}
use Rattle.judge_intake.proofs.OtherLemmas.{other_cases, own_place, switch_not, element}
use Rattle.step_graphs.specs.declared.step.Step.{Step}
use Rattle.step_graphs.specs.declared.step.Step.TheVariants.{OfSwitch, OfLink, OfTap, OfNothing}
use Rattle.step_graphs.specs.Steps.{items_in, StepFits, TakesIn, AreSteps, HasPosition}
use Rattle.step_graphs.specs.Moved.{AreGiven}
use Rattle.station_joints.specs.Together.{AreTogether, IsAlone, AreJointSteps, ArePlaces, AreJointlyGiven, AreIsolating}
use Rattle.station_joints.specs.Chosen.{layer_of, closed_at}
use Rattle.station_joints.proofs.ListLemmas.{map-to}
use Rattle.station_joints.proofs.PairLemmas.{same_one}
use Rattle.station_joints.proofs.PlaceLemmas.{switch_step, takes_switch}

-- ---- from positions to choices

tabulate : (ℕ → ℕ) → ℕ → List ℕ
tabulate f zero = []
tabulate f (suc n) = f 0 ∷ tabulate (λ j. f (suc j)) n

tabulate_long : (f : ℕ → ℕ) (n : ℕ) → length (tabulate f n) ≡ n
unfolding tabulate
tabulate_long f zero = refl
tabulate_long f (suc n) = ap suc (tabulate_long (λ j. f (suc j)) n)

tabulate_at : (f : ℕ → ℕ) (n j c : ℕ) → slice_get (tabulate f n) j ≡ Some c → (j < n) × (f j ≡ c)
unfolding tabulate
tabulate_at f zero j c e = cc
tabulate_at f (suc n) zero c e = (omega arith, same_Some (f 0) c e)
tabulate_at f (suc n) (suc j) c e = let (lt, is) = tabulate_at (λ k. f (suc k)) n j c e in (omega (arith, lt), is)

-- the choice for a position
bit : Bool → ℕ
bit true = 1
bit false = 0

bit_back : (c : Bool) → eqb (bit c) 1 ≡ c
unfolding bit
bit_back true = refl
bit_back false = refl

bit_small : (c : Bool) → bit c < 2
unfolding bit
bit_small true = omega arith
bit_small false = omega arith

bit_open : (c : Bool) → c ≡ false → bit c ≡ 0
unfolding bit
bit_open c e = ap bit e

-- what both steps choose in these vectors
choice_of : Step → Step → List Bool → List Bool → ℕ
choice_of (OfSwitch i) t u v = bit (get_or u i.0 false)
choice_of (OfLink i) t u v = 0
choice_of (OfTap i) t u v = 0
choice_of OfNothing (OfSwitch k) u v = bit (get_or v k.0 false)
choice_of OfNothing (OfLink k) u v = 0
choice_of OfNothing (OfTap k) u v = 0
choice_of OfNothing OfNothing u v = 0

choice_small : (s t : Step) (u v : List Bool) → choice_of s t u v < 2
unfolding choice_of
choice_small (OfSwitch i) t u v = bit_small (get_or u i.0 false)
choice_small (OfLink i) t u v = omega arith
choice_small (OfTap i) t u v = omega arith
choice_small OfNothing (OfSwitch k) u v = bit_small (get_or v k.0 false)
choice_small OfNothing (OfLink k) u v = omega arith
choice_small OfNothing (OfTap k) u v = omega arith
choice_small OfNothing OfNothing u v = omega arith

coded : (v : List Bool) (i : ℕ) → i < length v → slice_get v i ≡ Some (eqb (bit (get_or v i false)) 1)
coded v i lt = slice_get-get_or v i false lt ∙ ap Some (sym (bit_back (get_or v i false)))

module _ (o n : Diagram) (u v : List Bool) (joint : IsJoint o n u v) where
  old_chosen : (s t : Step) → StepFits o s → HasPosition s u (eqb (choice_of s t u v) 1)
  unfolding choice_of
  old_chosen (OfSwitch i) t fits = coded u i.0 (omega (arith, fits, joint.old))
  old_chosen (OfLink i) t fits = tt
  old_chosen (OfTap i) t fits = tt
  old_chosen OfNothing t fits = tt

  new_chosen : (s t : Step) → StepFits o s → StepFits n t → AreTogether o n s t →
      HasPosition t v (eqb (choice_of s t u v) 1)
  unfolding choice_of
  new_chosen (OfSwitch i) (OfSwitch k) in_o in_n same =
      sym (joint.agree i.0 k.0 same) ∙ coded u i.0 (omega (arith, in_o, joint.old))
  new_chosen (OfSwitch i) (OfLink k) in_o in_n never = tt
  new_chosen (OfSwitch i) (OfTap k) in_o in_n never = tt
  new_chosen (OfSwitch i) OfNothing in_o in_n never = tt
  new_chosen (OfLink i) (OfSwitch k) in_o in_n never = absurd never
  new_chosen (OfLink i) (OfLink k) in_o in_n never = tt
  new_chosen (OfLink i) (OfTap k) in_o in_n never = tt
  new_chosen (OfLink i) OfNothing in_o in_n never = tt
  new_chosen (OfTap i) (OfSwitch k) in_o in_n never = absurd never
  new_chosen (OfTap i) (OfLink k) in_o in_n never = tt
  new_chosen (OfTap i) (OfTap k) in_o in_n never = tt
  new_chosen (OfTap i) OfNothing in_o in_n never = tt
  new_chosen OfNothing (OfSwitch k) in_o in_n none = coded v k.0 (omega (arith, in_n, joint.new))
  new_chosen OfNothing (OfLink k) in_o in_n t = tt
  new_chosen OfNothing (OfTap k) in_o in_n t = tt
  new_chosen OfNothing OfNothing in_o in_n t = tt

  alone_open : (s t : Step) → StepFits o s → StepFits n t → AreTogether o n s t → IsIsolated o n u v →
      IsAlone s t → choice_of s t u v ≡ 0
  unfolding choice_of
  alone_open (OfSwitch i) OfNothing in_o in_n none iso alone =
      bit_open (get_or u i.0 false) (get_or_from_slice_get u i.0 false false (iso.old i.0 in_o none))
  alone_open OfNothing (OfSwitch k) in_o in_n none iso alone =
      bit_open (get_or v k.0 false) (get_or_from_slice_get v k.0 false false (iso.new k.0 in_n none))
  alone_open (OfSwitch i) (OfSwitch k) in_o in_n none iso alone = absurd alone
  alone_open (OfSwitch i) (OfLink k) in_o in_n none iso alone = absurd alone
  alone_open (OfSwitch i) (OfTap k) in_o in_n none iso alone = absurd alone
  alone_open (OfLink i) t in_o in_n none iso alone = absurd alone
  alone_open (OfTap i) t in_o in_n none iso alone = absurd alone
  alone_open OfNothing (OfLink k) in_o in_n none iso alone = absurd alone
  alone_open OfNothing (OfTap k) in_o in_n none iso alone = absurd alone
  alone_open OfNothing OfNothing in_o in_n none iso alone = absurd alone

  module _ (ss ts : List Step) (j : AreJointSteps o n ss ts) (b : ℕ) (within : b < length ss) where
    choice : ℕ → ℕ
    choice i = choice_of (get_or ss (other_of 0 b i) OfNothing) (get_or ts (other_of 0 b i) OfNothing) u v

    choices : List ℕ
    choices = tabulate choice (length ss - 1)

    chosen : (i c : ℕ) (s t : Step) → slice_get choices i ≡ Some c → slice_get ss (other_of 0 b i) ≡ Some s →
        slice_get ts (other_of 0 b i) ≡ Some t → choice_of s t u v ≡ c
    unfolding choice choices
    chosen i c s t at at_s at_t =
        let is : choice i ≡ c = (tabulate_at choice (length ss - 1) i c at).1 in
        sym (ap (λ (x : Step). choice_of x t u v)
        (get_or_from_slice_get ss (other_of 0 b i) s OfNothing at_s))
        ∙ sym (ap (λ (x : Step). choice_of (get_or ss (other_of 0 b i) OfNothing) x u v)
        (get_or_from_slice_get ts (other_of 0 b i) t OfNothing at_t))
        ∙ is

    counted : suc (length choices) ≡ length ss
    unfolding choices
    counted = omega (arith, tabulate_long choice (length ss - 1), within)

    small : (i c : ℕ) → slice_get choices i ≡ Some c → c < 2
    unfolding choices choice
    small i c at =
        subst (λ k. k < 2) (tabulate_at choice (length ss - 1) i c at).1
        (choice_small (get_or ss (other_of 0 b i) OfNothing) (get_or ts (other_of 0 b i) OfNothing) u v)

    pub given_choices : (cs : List ℕ) × AreJointlyGiven ss ts b u v cs
        × (IsIsolated o n u v → AreIsolating ss ts b cs)
    given_choices = (
      choices,
      record {
        old_given = record {
          count = counted;
          small = small;
          each = λ i c s at at_s.
              let (t, at_t) = element ts (other_of 0 b i)
              (omega (arith, slice_get_within ss (other_of 0 b i) s at_s, j.len)) in
              subst (λ k. HasPosition s u (eqb k 1)) (chosen i c s t at at_s at_t)
              (old_chosen s t (j.old_all.fit (other_of 0 b i) s at_s));
        };
        new_given = record {
          count = counted ∙ j.len;
          small = small;
          each = λ i c t at at_t.
              let (s, at_s) = element ss (other_of 0 b i)
              (omega (arith, slice_get_within ts (other_of 0 b i) t at_t, j.len)) in
              subst (λ k. HasPosition t v (eqb k 1)) (chosen i c s t at at_s at_t)
              (new_chosen s t (j.old_all.fit (other_of 0 b i) s at_s) (j.new_all.fit (other_of 0 b i) t at_t)
              (j.together (other_of 0 b i) s t at_s at_t));
        };
      },
      λ iso i c s t at at_s at_t alone.
          sym (chosen i c s t at at_s at_t)
          ∙ alone_open s t (j.old_all.fit (other_of 0 b i) s at_s) (j.new_all.fit (other_of 0 b i) t at_t)
          (j.together (other_of 0 b i) s t at_s at_t) iso alone,
    )

-- ---- one place

pub one_place : (o n : Diagram) (ss ts : List Step) (b i k : ℕ) → IsStation n → AreJointSteps o n ss ts →
    SameSwitch o n i k → TakesIn ss b (a_switch i) → TakesIn ts b (a_switch k)
one_place o n ss ts b i k is j same t =
    let (id, (is_switch, number)) = switch_step t.step i t.among in
    let (s, at_s) = element ts b (omega (arith, slice_get_within ss b t.step t.at, j.len)) in
    by id number s at_s (subst (λ (z : Step). AreTogether o n z s) is_switch (j.together b t.step s t.at at_s))
  where
    by : (id : SwitchId) → id.0 ≡ i → (s : Step) → slice_get ts b ≡ Some s → AreTogether o n (OfSwitch id) s →
        TakesIn ts b (a_switch k)
    by id number (OfSwitch x) at_s twin =
        let is_k : x.0 ≡ k =
        same_one o n i x.0 k is (subst (λ m. SameSwitch o n m x.0) number twin) same in
        subst (λ m. TakesIn ts b (a_switch m)) is_k (takes_switch ts b x at_s)
    by id number (OfLink x) at_s never = absurd never
    by id number (OfTap x) at_s never = absurd never
    by id number OfNothing at_s none = absurd (none k (subst (λ m. SameSwitch o n m k) (sym number) same))
