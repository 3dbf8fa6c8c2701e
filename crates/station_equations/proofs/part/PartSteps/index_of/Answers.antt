use Rattle.std.proofs.Common.{List, subst}
use Rattle.part_alphabets.specs.declared.fork.PartStep.{PartStep}
use Rattle.part_alphabets.specs.declared.fork.Target.TheVariants.{Index}
use Rattle.station_equations.specs.EquationLines.{PartLines}
use Rattle.station_equations.specs.EquationMeaning.{NextTarget, Leads, LeadsToIndex}
use Rattle.station_equations.proofs.part.PartSteps.index_of.Goals as goal

pub returns : goal.returns
returns c =
    let leads = subst
    (λ (s : List PartStep). Leads (NextTarget s c.args.vector.now) c.self.inside.start (Index c.follow.result))
    c.deref.ensures.value c.follow.ensures in
    subst (λ (x : PartLines). LeadsToIndex x c.args.vector.now c.follow.result) c.self.view_is leads
