use Rattle.std.proofs.Common.{refl, sym, subst}
use Rattle.station_equations.specs.declared.node.Lead.{Lead}
use Rattle.station_equations.specs.EquationLines.{NodeLine}
use Rattle.station_equations.specs.EquationForm.{goals_of}
use Rattle.station_equations.specs.Inside.{lead_line}
use Rattle.station_equations.specs.Growing.{AreGoals}
use Rattle.station_equations.proofs.turning.turned_node.Goals as goal

pub turned-requires : goal.turned-requires
turned-requires c =
    let fit = subst (λ (x : NodeLine). AreGoals c.args.total (goals_of x)) (sym c.node.view_is) c.requires in
    subst (λ (l : Lead). AreGoals c.args.total (goals_of (lead_line l))) c.in-Switch.is fit 0 c.in-Switch.off refl

pub turned-requires-in-Switch : goal.turned-requires-in-Switch
turned-requires-in-Switch c =
    let fit = subst (λ (x : NodeLine). AreGoals c.args.total (goals_of x)) (sym c.node.view_is) c.requires in
    subst (λ (l : Lead). AreGoals c.args.total (goals_of (lead_line l))) c.in-Switch.is fit 1 c.in-Switch.on refl
