-- The answers of a switch's operations, by the labels of its graphs.
use Rattle.std.proofs.Common.{◌≡◌, ◌∙◌, ℕ, zero, suc, Bool, List, [], ◌∷◌, Option, Some, None, refl, sym, subst, inl}
use Rattle.std.proofs.Common.{inr, arith}
use Rattle.std.specs.Prelude.{slice_get}
use Rattle.std.proofs.lemmas.Option.{same_Some}
use Rattle.ilk_base.specs.declared.words.Direction.{Direction}
use Rattle.ilk_base.specs.declared.words.Direction.TheVariants.{ToOff, ToOn}
use Rattle.ilk_base.specs.declared.words.Op.{Op}
use Rattle.ilk_base.specs.declared.words.Rule.{Rule}
use Rattle.ilk_base.specs.declared.words.Rule.TheVariants.{R1, R2, R3}
use Rattle.station_graph.specs.Diagram.{Diagram}
use Rattle.station_graph.specs.CentralRules.{Applies, Breaks, GapBreaks}
use Rattle.judge_pool.specs.declared.view.View.{View}
use Rattle.judge_pool.specs.declared.view.View.TheVariants.{Gap, Load}
use Rattle.judge_pool.specs.Graphs.{gap_rule, LabelSays}
use Rattle.station_equations.specs.declared.goal.Goal.{Goal}
use Rattle.station_equations.specs.declared.goal.Goal.TheVariants.{Answer}
use Rattle.station_equations.specs.EquationLines.{PartLines, NodeLine, goal_towards}
use Rattle.station_equations.specs.EquationMeaning.{Leads, NextGoal}
use Rattle.judge_pool.specs.Pooling.{Extends}
use Rattle.station_equations.specs.Compiling.{ViewLeads, SwitchIsExact}
use Rattle.station_equations.proofs.LeadsLemmas.{leads_all}
use Rattle.station_equations.proofs.GrowingLemmas.{end_stays}

-- opening breaks neither of the first two rules
opening_free : (d : Diagram) (v : List Bool) (op : Op) → op.direction ≡ ToOff → GapBreaks d v op None
opening_free d v op off = (λ h. not_on h.closes, λ h. by h)
  where
    not_on : op.direction ≡ ToOn → ⊥
    not_on on = let e : ToOff ≡ ToOn = sym off ∙ on in cc

    by : Applies R2 d v op → ⊥
    by (inl h) = not_on h.closes
    by (inr h) = not_on h.closes

-- what the load graph says of an operation
data LoadSays (d : Diagram) (v : List Bool) (op : Op) (Leading : Option Rule → Type 0) : Type 0 where
  carries : Applies R3 d v op → Leading (Some R3) → LoadSays d v op Leading
  free : (¬ Applies R3 d v op) → Leading None → LoadSays d v op Leading

module _ (d : Diagram) (parts : List PartLines) (nodes : List NodeLine) (v : List Bool) (m : ℕ) (opening : Goal) where
  abbrev Leading : Option Rule → Type 0
  Leading a = Leads (NextGoal parts nodes v) opening (Answer a)

  load_says : (label : ℕ) (end : Goal) → slice_get (Answer None ∷ Answer (Some R3) ∷ []) label ≡ Some end →
      Leads (NextGoal parts nodes v) opening end → LabelSays Load d m v label → (op : Op) → op.switch.0 ≡ m →
      LoadSays d v op Leading
  load_says zero end at leads says op here =
      free (λ h. let e : 0 ≡ 1 = (says op here).1 h in absurd (omega (arith, e)))
      (subst (λ g. Leads (NextGoal parts nodes v) opening g) (sym (same_Some (Answer None) end at)) leads)
  load_says (suc zero) end at leads says op here =
      carries ((says op here).0 refl)
      (subst (λ g. Leads (NextGoal parts nodes v) opening g) (sym (same_Some (Answer (Some R3)) end at)) leads)
  load_says (suc (suc k)) end at leads says op here = absurd (cc)

  -- the answer where the first two rules give none
  free_answer : (op : Op) → GapBreaks d v op None → LoadSays d v op Leading →
      (a : Option Rule) × Breaks d v op a × Leads (NextGoal parts nodes v) opening (Answer a)
  free_answer op gap (carries r3 leads) = (Some R3, (gap.0, gap.1, r3), leads)
  free_answer op gap (free none leads) = (None, (gap.0, gap.1, none), leads)

  close_says : (closing : Goal) (label : ℕ) (end : Goal) →
      slice_get (opening ∷ Answer (Some R1) ∷ Answer (Some R2) ∷ []) label ≡ Some end →
      Leads (NextGoal parts nodes v) closing end → (op : Op) → GapBreaks d v op (gap_rule label) →
      LoadSays d v op Leading → (a : Option Rule) × Breaks d v op a × Leads (NextGoal parts nodes v) closing (Answer a)
  close_says closing zero end at leads op gap load =
      let x = free_answer op gap load in (
        x.0,
        x.1,
        leads_all (NextGoal parts nodes v) closing opening (Answer x.0)
            (subst (λ g. Leads (NextGoal parts nodes v) closing g) (sym (same_Some opening end at)) leads) x.2,
      )
  close_says closing (suc zero) end at leads op gap load = (
    Some R1,
    gap,
    subst (λ g. Leads (NextGoal parts nodes v) closing g) (sym (same_Some (Answer (Some R1)) end at)) leads,
  )
  close_says closing (suc (suc zero)) end at leads op gap load = (
    Some R2,
    gap,
    subst (λ g. Leads (NextGoal parts nodes v) closing g) (sym (same_Some (Answer (Some R2)) end at)) leads,
  )
  close_says closing (suc (suc (suc k))) end at leads op gap load = absurd (cc)

  -- the goals of the switch lead to the answers of the rules
  pub switch_exact : (closing : Goal) → ViewLeads Load d parts nodes v m opening (Answer None ∷ Answer (Some R3) ∷ []) →
      ViewLeads Gap d parts nodes v m closing (opening ∷ Answer (Some R1) ∷ Answer (Some R2) ∷ []) →
      SwitchIsExact d parts nodes (record { opening = opening; closing = closing }) m v
  switch_exact closing load gap = record { answer = λ op here. by op here op.direction refl }
    where
      by : (op : Op) → op.switch.0 ≡ m → (way : Direction) → op.direction ≡ way →
          (a : Option Rule) × Breaks d v op a
          × Leads (NextGoal parts nodes v) (goal_towards (record { opening = opening; closing = closing }) op.direction)
          (Answer a)
      by op here ToOff off =
          let x = free_answer op (opening_free d v op off)
          (load_says load.label load.leads.end load.leads.listed load.leads.leads load.says op here) in (
            x.0,
            x.1,
            subst (λ way. Leads (NextGoal parts nodes v)
                (goal_towards (record { opening = opening; closing = closing }) way) (Answer x.0)) (sym off) x.2,
          )
      by op here ToOn on =
          let x = close_says closing gap.label gap.leads.end gap.leads.listed gap.leads.leads op (gap.says op here on)
          (load_says load.label load.leads.end load.leads.listed load.leads.leads load.says op here) in (
            x.0,
            x.1,
            subst (λ way. Leads (NextGoal parts nodes v)
                (goal_towards (record { opening = opening; closing = closing }) way) (Answer x.0)) (sym on) x.2,
          )

-- what a goal leads to stays so as nodes are added
pub view_stays : (view : View) (d : Diagram) (parts : List PartLines) (nodes more : List NodeLine) (v : List Bool)
    (m : ℕ) (goal : Goal) (ends : List Goal) → Extends nodes more → ViewLeads view d parts nodes v m goal ends →
    ViewLeads view d parts more v m goal ends
view_stays view d parts nodes more v m goal ends ext l = record {
  label = l.label;
  says = l.says;
  leads = end_stays parts nodes more v goal ends l.label ext l.leads;
}
