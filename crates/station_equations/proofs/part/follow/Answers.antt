use Rattle.std.proofs.Common.{◌<◌, length, sym, subst}
use Rattle.part_alphabets.specs.declared.fork.Target.{Target}
use Rattle.part_alphabets.specs.declared.fork.Target.TheVariants.{Step, Index}
use Rattle.station_equations.specs.EquationMeaning.{NextTarget, Leads}
use Rattle.station_equations.specs.EquationForm.{IsTarget}
use Rattle.station_equations.proofs.LeadsLemmas.{leads_here, leads_on}
use Rattle.station_equations.proofs.FollowLemmas.{later_target}
use Rattle.station_equations.proofs.part.follow.Goals as goal

pub returns-in-Index : goal.returns-in-Index
returns-in-Index c =
    c.loop-at.invariant.leads c.in-Index.index
    (leads_here (NextTarget c.args.steps.now c.args.vector.now) c.loop-at.at (Index c.in-Index.index) c.in-Index.is)

pub loop-at-preserved : goal.loop-at-preserved
loop-at-preserved c =
    let next = NextTarget c.args.steps.now c.args.vector.now in
    let lt : c.in-Step.m < length c.args.steps.now =
    subst (λ (t : Target). IsTarget (length c.args.steps.now) t) c.in-Step.is c.loop-at.invariant.target in
    record {
      target =
          (later_target (length c.args.steps.now) c.in-Step.m c.next_target-at.result lt
          c.next_target-at.ensures.later).0;
      leads =
          λ i l. c.loop-at.invariant.leads i (subst (λ (t : Target). Leads next t (Index i)) (sym c.in-Step.is)
          (leads_on next (Step c.in-Step.m) c.next_target-at.result (Index i) c.next_target-at.ensures.leads l));
    }
