-- What is said of a stock's view is said of the view.
use Rattle.std.proofs.Common.{◌≡◌, ℕ, List, subst}
use Rattle.station_graph.specs.Diagram.{Diagram}
use Rattle.judge_pool.specs.declared.view.View.{View}
use Rattle.step_graphs.specs.declared.step.Step.{Step}
use Rattle.step_graphs.specs.Edges.{StepsPass}

pub passes_in : (view seen : View) (d : Diagram) (steps : List Step) (b limit : ℕ) → seen ≡ view →
    StepsPass seen d steps b limit → StepsPass view d steps b limit
passes_in view seen d steps b limit e h = subst (λ (w : View). StepsPass w d steps b limit) e h
