-- Lines lead to one answer.
use Rattle.std.proofs.Common.{◌≡◌, ◌∙◌, ℕ, Bool, List, Option, sym, ap, subst}
use Rattle.std.specs.Prelude.{slice_get}
use Rattle.std.proofs.lemmas.Option.{same_Some}
use Rattle.ilk_base.specs.declared.words.Op.{Op}
use Rattle.ilk_base.specs.declared.words.Rule.{Rule}
use Rattle.part_alphabets.specs.declared.fork.Target.TheVariants.{Index}
use Rattle.station_equations.specs.declared.goal.Goal.{Goal}
use Rattle.station_equations.specs.declared.goal.Goal.TheVariants.{Node, Answer}
use Rattle.station_equations.specs.declared.goal.SwitchGoals.{SwitchGoals}
use Rattle.station_equations.specs.EquationLines.{PartLines, NodeLine, part_node, switch_node, EquationLines}
use Rattle.station_equations.specs.EquationLines.{goal_towards}
use Rattle.station_equations.specs.EquationMeaning.{Leads, NextTarget, LeadsToIndex, goal_at, LineLeads, NextGoal}
use Rattle.station_equations.specs.EquationMeaning.{Means}
use Rattle.station_equations.proofs.LeadsLemmas.{one_end}
use Rattle.station_equations.proofs.FollowLemmas.{one_target}

one_index : (x : PartLines) (v : List Bool) (i k : ℕ) → LeadsToIndex x v i → LeadsToIndex x v k → i ≡ k
one_index x v i k l m =
    let same : Index i ≡ Index k =
    one_end (NextTarget x.steps v) (one_target x.steps v) x.start (Index i) (Index k) (λ t h. h) (λ t h. h) l m in
    cc

one_line : (parts : List PartLines) (v : List Bool) (x : NodeLine) (b c : Goal) → LineLeads parts v x b →
    LineLeads parts v x c → b ≡ c
one_line parts v (part_node part goals) b c l m =
    let lines = same_Some l.lines m.lines (sym l.listed ∙ m.listed) in
    let index = one_index m.lines v l.index m.index (subst (λ (x : PartLines). LeadsToIndex x v l.index) lines l.leads)
    m.leads in
    same_Some b c (sym l.to ∙ ap (slice_get goals) index ∙ m.to)
one_line parts v (switch_node switch off on) b c l m =
    let position = same_Some l.position m.position (sym l.stands ∙ m.stands) in
    sym l.to ∙ ap (goal_at off on) position ∙ m.to

one_goal : (parts : List PartLines) (nodes : List NodeLine) (v : List Bool) (a b c : Goal) →
    NextGoal parts nodes v a b → NextGoal parts nodes v a c → b ≡ c
one_goal parts nodes v (Node n) b c l m =
    let same = same_Some l.line m.line (sym l.listed ∙ m.listed) in
    one_line parts v m.line b c (subst (λ (x : NodeLine). LineLeads parts v x b) same l.leads) m.leads
one_goal parts nodes v (Answer a) b c l m = absurd l

-- an operation has one answer at most
pub one_meaning : (e : EquationLines) (op : Op) (v : List Bool) (a b : Option Rule) → Means e op v a → Means e op v b →
    a ≡ b
one_meaning e op v a b l m =
    let goals = same_Some l.goals m.goals (sym l.listed ∙ m.listed) in
    let first = subst (λ (x : SwitchGoals). Leads (NextGoal e.parts e.nodes v) (goal_towards x op.direction) (Answer a))
    goals l.leads in
    let same : Answer a ≡ Answer b =
    one_end (NextGoal e.parts e.nodes v) (one_goal e.parts e.nodes v) (goal_towards m.goals op.direction) (Answer a)
    (Answer b) (λ g h. h) (λ g h. h) first m.leads in
    cc
