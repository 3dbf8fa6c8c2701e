use Rattle.std.proofs.Common.{◌≡◌, ◌∙◌, sym, subst, arith}
use Rattle.station_equations.specs.declared.goal.Goal.{Goal}
use Rattle.station_equations.specs.declared.goal.Goal.TheVariants.{Node}
use Rattle.station_equations.specs.declared.goal.TheConstants.{NUMBERS}
use Rattle.station_equations.specs.EquationForm.{IsLaterGoal}
use Rattle.equation_text.proofs.WordLemmas.{goal_once}
use Rattle.equation_text.proofs.OnceLemmas.{any_goal}
use Rattle.equation_text.proofs.node_lines.later_goal.Goals as goal

pub returns-else-k-n-clause-none : goal.returns-else-k-n-clause-none
returns-else-k-n-clause-none c = λ g later is.
    let h = c.in-Some-Node.ensures.some in
    let found : c.in-Some-Node.field-0 ≡ g = goal_once c.in-Some-Node.field-0 g h.0 (any_goal c.args.n g later)
    (sym h.1 ∙ is) in
    let same : Node c.in-Some-Node.k ≡ g = cc (c.in-Some-Node.field-0-is, found) in
    let here : IsLaterGoal NUMBERS c.args.n (Node c.in-Some-Node.k) = subst (λ
    (x : Goal). IsLaterGoal NUMBERS c.args.n x) (sym same) later in
    omega (arith, here.0, c.if-k-n.false)
