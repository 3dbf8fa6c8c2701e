-- Nodes in the order of their lines lead where they led in the order in which they were built.
use Rattle.std.proofs.Common.{◌≡◌, ◌∙◌, ℕ, ◌-◌, ◌<◌, zero, suc, Bool, true, false, List, [], ◌∷◌, length, map, refl}
use Rattle.std.proofs.Common.{sym, ap, subst, inl, inr, arith, Some}
use Rattle.std.specs.Prelude.{slice_get, option_map}
use Rattle.std.proofs.lemmas.List.{length-map}
use Rattle.std.proofs.lemmas.Option.{same_Some, slice_get_within, slice_get_cases, slice_get-map}
use Rattle.ilk_base.specs.declared.words.Direction.{Direction}
use Rattle.ilk_base.specs.declared.words.Direction.TheVariants.{ToOff, ToOn}
use Rattle.station_equations.specs.declared.goal.Goal.{Goal}
use Rattle.station_equations.specs.declared.goal.Goal.TheVariants.{Node, Answer}
use Rattle.station_equations.specs.declared.goal.SwitchGoals.{SwitchGoals}
use Rattle.station_equations.specs.EquationLines.{PartLines, NodeLine, part_node, switch_node, goal_towards}
use Rattle.station_equations.specs.EquationMeaning.{Leads, goal_at, LineLeads, NextGoal}
use Rattle.station_equations.specs.EquationForm.{IsGoal, IsLaterGoal, LeadsBy, goals_of, NodeLineFits, NodesFit}
use Rattle.station_equations.specs.EquationForm.{SwitchGoalsFit, OpsFit}
use Rattle.station_equations.specs.Growing.{AllGrew, turned_goal, turned_line, turned_goals, IsTurned}
use Rattle.station_equations.proofs.LeadsLemmas.{leads_map}

-- an entry of a list whose entries were changed
pub mapped : {X Y : Type 0} (f : X → Y) (xs : List X) (i : ℕ) (x : X) → slice_get xs i ≡ Some x →
    slice_get (map f xs) i ≡ Some (f x)
mapped f xs i x at = slice_get-map f xs i ∙ ap (option_map f) at

pub unmapped : {X Y : Type 0} (f : X → Y) (xs : List X) (i : ℕ) (y : Y) → slice_get (map f xs) i ≡ Some y →
    (x : X) × (slice_get xs i ≡ Some x) × (f x ≡ y)
unmapped f [] i y at = absurd (cc)
unmapped f (x ∷ xs) zero y at = (x, refl, same_Some (f x) y at)
unmapped f (x ∷ xs) (suc i) y at = unmapped f xs i y at

line_turned : (total : ℕ) (parts : List PartLines) (v : List Bool) (x : NodeLine) (g : Goal) → LineLeads parts v x g →
    LineLeads parts v (turned_line total x) (turned_goal total g)
line_turned total parts v (part_node part goals) g l = record {
  lines = l.lines;
  index = l.index;
  listed = l.listed;
  leads = l.leads;
  to = mapped (turned_goal total) goals l.index g l.to;
}
line_turned total parts v (switch_node switch off on) g l = record {
  position = l.position;
  stands = l.stands;
  to = by l.position ∙ ap (turned_goal total) l.to;
}
  where
    by : (b : Bool) → goal_at (turned_goal total off) (turned_goal total on) b ≡ turned_goal total (goal_at off on b)
    by false = refl
    by true = refl

pub goals_turned : (total : ℕ) (x : NodeLine) (i : ℕ) (g : Goal) →
    slice_get (goals_of (turned_line total x)) i ≡ Some g →
    (h : Goal) × (slice_get (goals_of x) i ≡ Some h) × (turned_goal total h ≡ g)
goals_turned total (part_node part goals) i g at = unmapped (turned_goal total) goals i g at
goals_turned total (switch_node switch off on) i g at = unmapped (turned_goal total) (off ∷ on ∷ []) i g at

by_turned : (switches total : ℕ) (parts : List PartLines) (x : NodeLine) → LeadsBy switches parts x →
    LeadsBy switches parts (turned_line total x)
by_turned switches total parts (part_node part goals) by = record {
  lines = by.lines;
  listed = by.listed;
  count = length-map goals (turned_goal total) ∙ by.count;
}
by_turned switches total parts (switch_node switch off on) by = by

later_turned : (total n m : ℕ) (h : Goal) → n < total → m ≡ total - suc n → IsGoal n h →
    IsLaterGoal total m (turned_goal total h)
later_turned total n m (Node k) lt is before = (omega (arith, lt, is, before), omega (arith, lt, before))
later_turned total n m (Answer a) lt is before = tt

pub goal_turned : (total : ℕ) (g : Goal) → IsGoal total g → IsGoal total (turned_goal total g)
goal_turned total (Node n) lt = omega (arith, lt)
goal_turned total (Answer a) lt = tt

module _ (switches : ℕ) (parts : List PartLines) (nodes turned : List NodeLine) (are : IsTurned nodes turned) where
  next_turned : (v : List Bool) (a b : Goal) → NextGoal parts nodes v a b →
      NextGoal parts turned v (turned_goal (length nodes) a) (turned_goal (length nodes) b)
  next_turned v (Node n) b next = record {
    line = turned_line (length nodes) next.line;
    listed = are.each n next.line next.listed;
    leads = line_turned (length nodes) parts v next.line b next.leads;
  }
  next_turned v (Answer a) b next = absurd next

  pub leads_turned : (v : List Bool) (a b : Goal) → Leads (NextGoal parts nodes v) a b →
      Leads (NextGoal parts turned v) (turned_goal (length nodes) a) (turned_goal (length nodes) b)
  leads_turned v a b l =
      leads_map (turned_goal (length nodes)) (NextGoal parts nodes v) (NextGoal parts turned v) (next_turned v) a b l

  pub nodes_turned : AllGrew switches parts nodes → NodesFit switches parts turned
  nodes_turned all = λ m y at.
      let m_in : m < length nodes = omega (arith, slice_get_within turned m y at, are.count) in
      elim (slice_get_cases nodes (length nodes - suc m)).1 [
        | inl here ↦ fits m y at m_in here.0 here.2
        | inr past ↦ absurd (omega (arith, past.0, m_in))
      ]
    where
      fits : (m : ℕ) (y : NodeLine) → slice_get turned m ≡ Some y → m < length nodes → (x : NodeLine) →
          slice_get nodes (length nodes - suc m) ≡ Some x → NodeLineFits switches parts (length turned) m y
      fits m y at m_in x here =
          let n = length nodes - suc m in
          let back : length nodes - suc (length nodes - suc m) ≡ m = omega (arith, m_in) in
          let n_in : length nodes - suc m < length nodes = omega (arith, m_in) in
          let grew = all (length nodes - suc m) x here in
          let same : turned_line (length nodes) x ≡ y =
          same_Some (turned_line (length nodes) x) y
          (sym (are.each (length nodes - suc m) x here) ∙ ap (slice_get turned) back ∙ at) in
          subst (λ (z : NodeLine). NodeLineFits switches parts (length turned) m z) same (record {
            by = by_turned switches (length nodes) parts x grew.by;
            goals = λ i g goal_at.
                let h = goals_turned (length nodes) x i g goal_at in
                subst (λ (z : Goal). IsLaterGoal (length turned) m z) h.2 (subst
                (λ k. IsLaterGoal k m (turned_goal (length nodes) h.0)) (sym are.count)
                (later_turned (length nodes) (length nodes - suc m) m h.0 n_in (sym back) (grew.goals i h.0 h.1)));
          })

  pub ops_turned : (ops : List SwitchGoals) → OpsFit (length nodes) ops →
      OpsFit (length turned) (map (turned_goals (length nodes)) ops)
  ops_turned ops fit = λ s y at.
      let x = unmapped (turned_goals (length nodes)) ops s y at in
      let old = fit s x.0 x.1 in
      subst (λ (z : SwitchGoals). SwitchGoalsFit (length turned) z) x.2
      (subst (λ k. SwitchGoalsFit k (turned_goals (length nodes) x.0)) (sym are.count) (record {
        opening = goal_turned (length nodes) x.0.opening old.opening;
        closing = goal_turned (length nodes) x.0.closing old.closing;
      }))

pub towards_turned : (total : ℕ) (x : SwitchGoals) (way : Direction) →
    goal_towards (turned_goals total x) way ≡ turned_goal total (goal_towards x way)
towards_turned total x ToOff = refl
towards_turned total x ToOn = refl
