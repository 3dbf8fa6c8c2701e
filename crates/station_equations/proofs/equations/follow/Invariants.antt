use Rattle.std.proofs.Common.{length, Option}
use Rattle.ilk_base.specs.declared.words.Rule.{Rule}
use Rattle.station_equations.specs.declared.goal.Goal.TheVariants.{Answer}
use Rattle.station_equations.specs.EquationMeaning.{NextGoal, Leads}
use Rattle.station_equations.specs.EquationForm.{IsGoal}
use Rattle.station_equations.proofs.FollowLemmas.{nodes_left}
use Rattle.station_equations.proofs.equations.follow.Given as goal

abbrev pub invariant-loop-at : goal.invariant-loop-at
invariant-loop-at l =
    record {
      goal : IsGoal (length l.nodes) l.at;
      leads : (a : Option Rule) → Leads (NextGoal l.parts l.nodes l.vector) l.at (Answer a) →
          Leads (NextGoal l.parts l.nodes l.vector) l.fn.start (Answer a);
    }

abbrev pub decreases-loop-at : goal.decreases-loop-at
decreases-loop-at l = nodes_left (length l.nodes) l.at
