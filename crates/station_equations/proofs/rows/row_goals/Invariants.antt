use Rattle.std.proofs.Common.{◌≡◌, ℕ, length, Some}
use Rattle.std.specs.Prelude.{slice_get}
use Rattle.decision_graphs.specs.Label.{layer_at, step}
use Rattle.station_equations.specs.declared.goal.Goal.{Goal}
use Rattle.station_equations.proofs.rows.row_goals.Given as goal

abbrev pub invariant-loop-choice : goal.invariant-loop-choice
invariant-loop-choice l =
    record {
      count : length l.goals.items ≡ l.choice;
      each : (c : ℕ) (x : Goal) → slice_get l.goals.items c ≡ Some x →
          slice_get l.next (step (layer_at l.graph.layers l.layer) l.node c) ≡ Some x;
    }
