use Rattle.std.proofs.Common.{◌∙◌, ◌↔◌, List, sym, ap, subst}
use Rattle.std.specs.Prelude.{IsTrue}
use Rattle.station_equations.specs.declared.goal.Goal.{Goal}
use Rattle.station_equations.specs.declared.node.Lead.{Lead}
use Rattle.station_equations.specs.EquationLines.{NodeLine}
use Rattle.station_equations.specs.EquationForm.{goals_of}
use Rattle.station_equations.specs.Inside.{lead_line}
use Rattle.equation_text.specs.Defined.{GoalsThere}
use Rattle.equation_text.proofs.DefinedLemmas.{second_there, first_not}
use Rattle.equation_text.proofs.defined.node_there.Goals as goal

pub returns-in-Part : goal.returns-in-Part
returns-in-Part c =
    let same = ap (λ (x : NodeLine). goals_of x) (sym c.lead.ensures) ∙ ap (λ (l : Lead). goals_of
    (lead_line l)) c.in-Part.is ∙ sym c.deref.ensures.value in
    subst (λ (gs : List Goal). IsTrue c.goals_there.result ↔ GoalsThere c.args.nodes gs)
    (sym same) c.goals_there.ensures

pub returns-then-is_node : goal.returns-then-is_node
returns-then-is_node c =
    let same = ap (λ (x : NodeLine). goals_of x) (sym c.lead.ensures) ∙ ap (λ (l : Lead). goals_of
    (lead_line l)) c.in-Switch.is in
    subst (λ (gs : List Goal). IsTrue c.is_node-then-is_node.result ↔ GoalsThere c.args.nodes gs) (sym same)
    (second_there c.args.nodes c.in-Switch.off c.in-Switch.on c.is_node-then-is_node.result
    (c.is_node.ensures.0 c.if-is_node.true) c.is_node-then-is_node.ensures)

pub returns-else-is_node : goal.returns-else-is_node
returns-else-is_node c =
    let same = ap (λ (x : NodeLine). goals_of x) (sym c.lead.ensures) ∙ ap (λ (l : Lead). goals_of
    (lead_line l)) c.in-Switch.is in
    subst (λ (gs : List Goal). IsTrue c.is_node.result ↔ GoalsThere c.args.nodes gs) (sym same)
    (first_not c.args.nodes c.in-Switch.off c.in-Switch.on c.is_node.result c.if-is_node.false c.is_node.ensures)
