use Rattle.std.proofs.Common.{ℕ, length}
use Rattle.part_alphabets.specs.declared.fork.Target.TheVariants.{Index}
use Rattle.station_equations.specs.EquationMeaning.{NextTarget, Leads}
use Rattle.station_equations.specs.EquationForm.{IsTarget}
use Rattle.station_equations.proofs.FollowLemmas.{steps_left}
use Rattle.station_equations.proofs.part.follow.Given as goal

abbrev pub invariant-loop-at : goal.invariant-loop-at
invariant-loop-at l =
    record {
      target : IsTarget (length l.steps) l.at;
      leads : (i : ℕ) → Leads (NextTarget l.steps l.vector) l.at (Index i) →
          Leads (NextTarget l.steps l.vector) l.fn.start (Index i);
    }

abbrev pub decreases-loop-at : goal.decreases-loop-at
decreases-loop-at l = steps_left (length l.steps) l.at
