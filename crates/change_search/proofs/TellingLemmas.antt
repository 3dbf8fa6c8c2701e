-- The labels tell which rule is broken.
use Rattle.std.proofs.Common.{◌≡◌, ℕ, Bool, true, false, eqb, List, Option, Some, None, slice_get, refl, sym, ap, ◌∙◌}
use Rattle.std.proofs.Common.{subst, inl, inr, arith}
use Rattle.std.specs.Prelude.{◌↔◌, if◌then◌else◌}
use Rattle.std.proofs.lemmas.Option.{same_Some}
use Rattle.ilk_base.specs.declared.words.Direction.{Direction}
use Rattle.ilk_base.specs.declared.words.Direction.TheVariants.{ToOff, ToOn}
use Rattle.ilk_base.specs.declared.words.Op.{Op}
use Rattle.ilk_base.specs.declared.words.Rule.{Rule}
use Rattle.ilk_base.specs.declared.words.Rule.TheVariants.{R1, R2, R3}
use Rattle.station_graph.specs.Diagram.{Diagram}
use Rattle.station_graph.specs.CentralRules.{Applies, Breaks, GapBreaks}
use Rattle.station_graph.proofs.AnswerLemmas.{same_answer}
use Rattle.station_changes.specs.declared.change.Change.{Change}
use Rattle.station_changes.specs.declared.change.Change.TheVariants.{Stricter, Looser}
use Rattle.station_changes.specs.Compare.{IsCommon, IsJoint, IsChange}
use Rattle.decision_graphs.specs.Label.{Layered, label_of}
use Rattle.graph_walks.specs.declared.codes.Codes.{Codes}
use Rattle.graph_walks.specs.Walks.{codes_of}
use Rattle.judge_pool.specs.declared.view.View.TheVariants.{Gap, Load}
use Rattle.judge_pool.specs.Graphs.{gap_rule, LabelSays}
use Rattle.step_graphs.specs.declared.step.Step.{Step}
use Rattle.station_joints.specs.Together.{AreJointlyGiven}
use Rattle.change_search.specs.Telling.{first_rule, answer_of, Tells, IsSwitchWalk}
use Rattle.change_search.specs.Searching.{LeadsToChange}

module _ (d : Diagram) (v : List Bool) (op : Op) where
  -- the third rule, as the label says
  load_case : (t : Bool) → ((t ≡ true) ↔ Applies R3 d v op) → ¬ Applies R1 d v op → ¬ Applies R2 d v op →
      Breaks d v op (if t then Some R3 else None)
  load_case true says first second = (first, second, says.0 refl)
  load_case false says first second = (first, second, λ applies. let e : false ≡ true = says.1 applies in cc)

  both_case : (r : Option Rule) → GapBreaks d v op r → (t : Bool) → ((t ≡ true) ↔ Applies R3 d v op) →
      Breaks d v op (first_rule r (if t then Some R3 else None))
  both_case None gap t says = load_case t says gap.0 gap.1
  both_case (Some R1) gap t says = gap
  both_case (Some R2) gap t says = gap
  both_case (Some R3) gap t says = absurd gap

  no_first : op.direction ≡ ToOff → ¬ Applies R1 d v op
  no_first off applies = let e : ToOff ≡ ToOn = sym off ∙ applies.closes in cc

  no_second : op.direction ≡ ToOff → ¬ Applies R2 d v op
  no_second off (inl applies) = let e : ToOff ≡ ToOn = sym off ∙ applies.closes in cc
  no_second off (inr applies) = let e : ToOff ≡ ToOn = sym off ∙ applies.closes in cc

  label_test : (label : ℕ) → ((label ≡ 1) ↔ Applies R3 d v op) → (eqb label 1 ≡ true) ↔ Applies R3 d v op
  label_test label says = (λ e. says.0 (eqb-to label e), λ applies. eqb-from label (says.1 applies))
    where
      eqb-to : (x : ℕ) → eqb x 1 ≡ true → x ≡ 1
      eqb-to x e = grind arith

      eqb-from : (x : ℕ) → x ≡ 1 → eqb x 1 ≡ true
      eqb-from x e = ap (λ y. eqb y 1) e

  pub labels_answer : (gap load : ℕ) → LabelSays Gap d op.switch.0 v gap → LabelSays Load d op.switch.0 v load →
      Breaks d v op (answer_of op.direction gap load)
  labels_answer gap load gap_says load_says =
      by op.direction refl
    where
      by : (direction : Direction) → op.direction ≡ direction → Breaks d v op (answer_of direction gap load)
      by ToOff off = load_case (eqb load 1) (label_test load (load_says op refl)) (no_first off) (no_second off)
      by ToOn on =
          both_case (gap_rule gap) (gap_says op refl on) (eqb load 1) (label_test load (load_says op refl))

-- what two answers say of a change
AnswersTell : Option Rule → Option Rule → Change → Rule → Type 0
AnswersTell x y Stricter rule = (x ≡ None) × (y ≡ Some rule)
AnswersTell x y Looser rule = (x ≡ Some rule) × (y ≡ None)

tells_to : (direction : Direction) (change : Change) (rule : Rule) (c : Codes) → Tells direction change rule c →
    AnswersTell (answer_of direction c.first c.third) (answer_of direction c.second c.fourth) change rule
unfolding AnswersTell
tells_to direction Stricter rule c t = t
tells_to direction Looser rule c t = t

tells_from : (direction : Direction) (change : Change) (rule : Rule) (c : Codes) →
    AnswersTell (answer_of direction c.first c.third) (answer_of direction c.second c.fourth) change rule →
    Tells direction change rule c
unfolding AnswersTell
tells_from direction Stricter rule c t = t
tells_from direction Looser rule c t = t

module _ (o n : Diagram) (a b : Op) (u v : List Bool) (x y : Option Rule) (old : Breaks o u a x)
    (new : Breaks n v b y) where
  answers_change : (change : Change) (rule : Rule) → AnswersTell x y change rule → IsChange o n a b change rule u v
  unfolding AnswersTell
  answers_change Stricter rule t = (
    subst (λ (r : Option Rule). Breaks o u a r) t.0 old,
    subst (λ (r : Option Rule). Breaks n v b r) t.1 new,
  )
  answers_change Looser rule t = (
    subst (λ (r : Option Rule). Breaks o u a r) t.0 old,
    subst (λ (r : Option Rule). Breaks n v b r) t.1 new,
  )

  change_answers : (change : Change) (rule : Rule) → IsChange o n a b change rule u v → AnswersTell x y change rule
  unfolding AnswersTell
  change_answers Stricter rule t = (same_answer o u a x None old t.0, same_answer n v b y (Some rule) new t.1)
  change_answers Looser rule t = (same_answer o u a x (Some rule) old t.0, same_answer n v b y None new t.1)

module _ (o n : Diagram) (ss ts : List Step) (place : ℕ) (walk : Layered) (codes : List Codes) (a b : Op)
    (change : Change) (rule : Rule) (u v : List Bool) (cs : List ℕ)
    (w : IsSwitchWalk o n ss ts place a.switch.0 b.switch.0 walk codes) (common : IsCommon o n a b)
    (joint : IsJoint o n u v) (given : AreJointlyGiven ss ts place u v cs) where
  labels : Codes
  labels = codes_of w.old_gap w.new_gap w.old_load w.new_load cs

  there : slice_get codes (label_of walk cs) ≡ Some labels
  unfolding labels
  there = w.walked.leads cs (record {
    len = omega (arith, given.old_given.count, w.count);
    small = given.old_given.small;
  })

  old_breaks : Breaks o u a (answer_of a.direction labels.first labels.third)
  unfolding labels
  old_breaks =
      labels_answer o u a (label_of w.old_gap cs) (label_of w.old_load cs)
      (w.is_old_gap.says u cs joint.old given.old_given) (w.is_old_load.says u cs joint.old given.old_given)

  new_breaks : Breaks n v b (answer_of a.direction labels.second labels.fourth)
  unfolding labels
  new_breaks =
      subst (λ (x : Direction). Breaks n v b (answer_of x (label_of w.new_gap cs) (label_of w.new_load cs)))
      (sym common.direction)
      (labels_answer n v b (label_of w.new_gap cs) (label_of w.new_load cs)
      (w.is_new_gap.says v cs joint.new given.new_given) (w.is_new_load.says v cs joint.new given.new_given))

  pub tells_change : LeadsToChange walk codes a.direction change rule cs ↔ IsChange o n a b change rule u v
  tells_change = (
    λ h.
        let same : h.labels ≡ labels = same_Some h.labels labels (sym h.there ∙ there) in
        answers_change o n a b u v (answer_of a.direction labels.first labels.third)
        (answer_of a.direction labels.second labels.fourth) old_breaks new_breaks change rule
        (tells_to a.direction change rule labels (subst (λ (c : Codes). Tells a.direction change rule c) same h.tells)),
    λ shown. record {
      labels = labels;
      there = there;
      tells =
          tells_from a.direction change rule labels
          (change_answers o n a b u v (answer_of a.direction labels.first labels.third)
          (answer_of a.direction labels.second labels.fourth) old_breaks new_breaks change rule shown);
    },
  )
