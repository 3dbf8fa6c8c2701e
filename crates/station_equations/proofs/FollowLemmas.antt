-- How far it is to the end of a way, and what follows a target or a goal.
use Rattle.std.proofs.Common.{◌≡◌, ◌∙◌, ◌⊎◌, ℕ, ◌-◌, ◌<◌, zero, suc, max, Bool, true, false, List, [], ◌∷◌, ◌++◌}
use Rattle.std.proofs.Common.{length, refl, sym, ap, subst, inl, inr, arith, Some, Option}
use Rattle.std.specs.Prelude.{slice_get}
use Rattle.std.specs.List.{flat_map}
use Rattle.std.proofs.lemmas.Bool.{cases_lt}
use Rattle.std.proofs.lemmas.Option.{same_Some}
use Rattle.ilk_base.specs.declared.words.Direction.{Direction}
use Rattle.ilk_base.specs.declared.words.Direction.TheVariants.{ToOff, ToOn}
use Rattle.ilk_base.specs.declared.words.Op.{Op}
use Rattle.ilk_base.specs.declared.words.Rule.{Rule}
use Rattle.part_alphabets.specs.declared.fork.Target.{Target}
use Rattle.part_alphabets.specs.declared.fork.Target.TheVariants.{Step, Index}
use Rattle.part_alphabets.specs.declared.fork.PartStep.{PartStep}
use Rattle.station_equations.specs.declared.goal.Goal.{Goal}
use Rattle.station_equations.specs.declared.goal.Goal.TheVariants.{Node, Answer}
use Rattle.station_equations.specs.declared.goal.SwitchGoals.{SwitchGoals}
use Rattle.station_equations.specs.EquationLines.{PartLines, NodeLine, goal_towards, part_node, switch_node, index_in}
use Rattle.station_equations.specs.EquationLines.{past_greatest, goal_count}
use Rattle.station_equations.specs.EquationMeaning.{PassesThrough, Leads, step_target, StepLeads, NextTarget}
use Rattle.station_equations.specs.EquationMeaning.{LeadsToIndex}
use Rattle.station_equations.specs.EquationMeaning.{goal_at, LineLeads, NextGoal, Means}
use Rattle.station_equations.specs.EquationForm.{IsTarget, IsLaterTarget, IsGoal, IsLaterGoal, HasGoals, NodeLineFits}
use Rattle.station_equations.specs.EquationForm.{NodesFit, SwitchGoalsFit}

abbrev pub steps_left : ℕ → Target → ℕ
steps_left steps (Step m) = suc (steps - m)
steps_left steps (Index i) = 0

abbrev pub nodes_left : ℕ → Goal → ℕ
nodes_left nodes (Node n) = suc (nodes - n)
nodes_left nodes (Answer a) = 0

pub later_target : (steps m : ℕ) (t : Target) → m < steps → IsLaterTarget steps m t →
    IsTarget steps t × (steps_left steps t < suc (steps - m))
later_target steps m (Step n) lt later = (later.1, omega (arith, later.0, later.1, lt))
later_target steps m (Index i) lt later = (later, omega (arith, lt))

pub later_goal : (nodes n : ℕ) (g : Goal) → n < nodes → IsLaterGoal nodes n g →
    IsGoal nodes g × (nodes_left nodes g < suc (nodes - n))
later_goal nodes n (Node k) lt later = (later.1, omega (arith, later.0, later.1, lt))
later_goal nodes n (Answer a) lt later = (tt, omega (arith, lt))

-- an index that is written is below the number of indices
among_past : (is js : List ℕ) (i : ℕ) → i < past_greatest is → i < past_greatest (is ++ js)
among_past [] js i lt = absurd (omega (arith, lt))
among_past (k ∷ is) js i lt = max_mono (suc k) (past_greatest is) (past_greatest (is ++ js)) i lt (among_past is js i)
  where
    max_mono : (a b more i : ℕ) → i < max a b → (i < b → i < more) → i < max a more
    max_mono a b more i lt grows = elim (cases_lt i b) [
      | inl here ↦ let h = grows here in omega (arith, h)
      | inr past ↦ omega (arith, lt, past)
    ]

past_among : (is js : List ℕ) (i : ℕ) → i < past_greatest js → i < past_greatest (is ++ js)
past_among [] js i lt = lt
past_among (k ∷ is) js i lt = let h = past_among is js i lt in omega (arith, h)

written_target : (t : Target) (i : ℕ) → t ≡ Index i → i < past_greatest (index_in t)
written_target (Step n) i same = absurd (cc)
written_target (Index k) i same = let e : k ≡ i = cc in omega (arith, e)

written_step : (steps : List PartStep) (m : ℕ) (s : PartStep) (i : ℕ) (closed : Bool) → slice_get steps m ≡ Some s →
    step_target s closed ≡ Index i →
    i < past_greatest (flat_map (λ (x : PartStep). index_in x.off ++ index_in x.on) steps)
written_step [] m s i closed at to = absurd (cc)
written_step (x ∷ steps) zero s i closed at to =
    among_past (index_in x.off ++ index_in x.on) _ i (by closed (same_Some x s at) to)
  where
    by : (b : Bool) → x ≡ s → step_target s b ≡ Index i → i < past_greatest (index_in x.off ++ index_in x.on)
    by false same is =
        among_past (index_in x.off) (index_in x.on) i (written_target x.off i (ap (λ (z : PartStep). z.off) same ∙ is))
    by true same is =
        past_among (index_in x.off) (index_in x.on) i (written_target x.on i (ap (λ (z : PartStep). z.on) same ∙ is))
written_step (x ∷ steps) (suc m) s i closed at to =
    past_among (index_in x.off ++ index_in x.on) _ i (written_step steps m s i closed at to)

index_passed : (x : PartLines) (v : List Bool) (t : Target) (after : List Target) (i : ℕ) →
    (t ≡ x.start) ⊎ ((m : ℕ) × StepLeads x.steps v m t) → PassesThrough (NextTarget x.steps v) t after (Index i) →
    i < goal_count x
index_passed x v t [] i (inl same) end = among_past (index_in x.start) _ i (written_target x.start i (sym same ∙ end))
index_passed x v t [] i (inr s) end =
    past_among (index_in x.start) _ i (written_step x.steps s.0 s.1.step i s.1.closed s.1.listed (s.1.to ∙ end))
index_passed x v (Step m) (u ∷ after) i from ps = index_passed x v u after i (inr (m, ps.0)) ps.1
index_passed x v (Index k) (u ∷ after) i from ps = absurd ps.0

-- an index to which the steps lead is one that the lines write
pub index_written : (x : PartLines) (v : List Bool) (i : ℕ) → LeadsToIndex x v i → i < goal_count x
index_written x v i l = index_passed x v x.start l.after i (inl refl) l.passes

-- no target follows an index, no goal an answer, and one at most follows a step or a node
pub one_target : (steps : List PartStep) (v : List Bool) (a b c : Target) → NextTarget steps v a b →
    NextTarget steps v a c → b ≡ c
one_target steps v (Step m) b c p q =
    let s = same_Some p.step q.step (sym p.listed ∙ q.listed) in
    let at : slice_get v q.step.switch.0 ≡ Some p.closed =
    ap (λ (z : PartStep). slice_get v z.switch.0) (sym s) ∙ p.position in
    let closed = same_Some p.closed q.closed (sym at ∙ q.position) in
    sym p.to ∙ ap (λ (z : PartStep). step_target z p.closed) s ∙ ap (λ b. step_target q.step b) closed ∙ q.to
one_target steps v (Index i) b c p q = absurd p

-- an index of a part is one of a node's goals
pub by_index : (parts : List PartLines) (part : ℕ) (goals : List Goal) (x : PartLines) (v : List Bool) (i : ℕ) →
    HasGoals parts part goals → slice_get parts part ≡ Some x → LeadsToIndex x v i → i < length goals
by_index parts part goals x v i has at leads =
    let same = same_Some has.lines x (sym has.listed ∙ at) in
    let written = index_written x v i leads in
    omega (arith, written, has.count, ap goal_count same)

-- the goal to which a line leads stands behind it
pub line_later : (switches : ℕ) (parts : List PartLines) (nodes n : ℕ) (x : NodeLine) (v : List Bool) (g : Goal) →
    NodeLineFits switches parts nodes n x → LineLeads parts v x g → IsLaterGoal nodes n g
line_later switches parts nodes n (part_node part goals) v g fits l = fits.goals l.index g l.to
line_later switches parts nodes n (switch_node switch off on) v g fits l =
    subst (λ (h : Goal). IsLaterGoal nodes n h) l.to (by l.position)
  where
    by : (b : Bool) → IsLaterGoal nodes n (goal_at off on b)
    by false = fits.goals 0 off refl
    by true = fits.goals 1 on refl

-- the same under other names
pub nodes_fit_same : (switches other : ℕ) (parts ps : List PartLines) (nodes ns : List NodeLine) → switches ≡ other →
    parts ≡ ps → nodes ≡ ns → NodesFit switches parts nodes → NodesFit other ps ns
nodes_fit_same switches other parts ps nodes ns same_switches same_parts same_nodes fits =
    subst (λ (xs : List NodeLine). NodesFit other ps xs) same_nodes (subst
    (λ (xs : List PartLines). NodesFit other xs nodes) same_parts
    (subst (λ k. NodesFit k parts nodes) same_switches fits))

pub goal_fits : (nodes : ℕ) (x : SwitchGoals) (way : Direction) → SwitchGoalsFit nodes x →
    IsGoal nodes (goal_towards x way)
goal_fits nodes x ToOff fits = fits.opening
goal_fits nodes x ToOn fits = fits.closing

pub lines_mean : (parts ps : List PartLines) (nodes ns : List NodeLine) (ops : List SwitchGoals) (op : Op)
    (v : List Bool) (answer : Option Rule) (goals : SwitchGoals) (start : Goal) →
    slice_get ops op.switch.0 ≡ Some goals → start ≡ goal_towards goals op.direction → ps ≡ parts → ns ≡ nodes →
    Leads (NextGoal ps ns v) start (Answer answer) →
    Means (record { parts = parts; ops = ops; nodes = nodes }) op v answer
lines_mean parts ps nodes ns ops op v answer goals start at is same_parts same_nodes leads = record {
  goals = goals;
  listed = at;
  leads =
      subst (λ (xs : List NodeLine). Leads (NextGoal parts xs v) (goal_towards goals op.direction) (Answer answer))
      same_nodes
      (subst (λ (xs : List PartLines). Leads (NextGoal xs ns v) (goal_towards goals op.direction) (Answer answer))
      same_parts (subst (λ (g : Goal). Leads (NextGoal ps ns v) g (Answer answer)) is leads));
}
