-- What is said of a stock's view and of a borrowed list is said of the view and of the list.
use Rattle.std.proofs.Common.{◌≡◌, ℕ, List, subst}
use Rattle.station_graph.specs.Diagram.{Diagram}
use Rattle.decision_graphs.specs.Label.{Layered}
use Rattle.judge_pool.specs.declared.view.View.{View}
use Rattle.judge_pool.specs.declared.view.View.TheVariants.{Gap, Load}
use Rattle.step_graphs.specs.declared.step.Step.{Step}
use Rattle.step_graphs.specs.Moved.{IsMovedGraph}
use Rattle.step_graphs.specs.Edges.{StepsPass, StepsKeep}
use Rattle.station_compare.specs.Width.{IsDisconnector, GraphsKeep}

pub moved_here : (view seen : View) (d : Diagram) (steps held : List Step) (b m : ℕ) (g : Layered) → seen ≡ view →
    held ≡ steps → IsMovedGraph seen d held b m g → IsMovedGraph view d steps b m g
moved_here view seen d steps held b m g e f h =
    subst (λ (w : View). IsMovedGraph w d steps b m g) e (subst (λ (xs : List Step). IsMovedGraph seen d xs b m g) f h)

pub passes_here : (view seen : View) (d : Diagram) (steps held : List Step) (b limit : ℕ) → seen ≡ view →
    held ≡ steps → StepsPass seen d held b limit → StepsPass view d steps b limit
passes_here view seen d steps held b limit e f h =
    subst (λ (w : View). StepsPass w d steps b limit) e (subst (λ (xs : List Step). StepsPass seen d xs b limit) f h)

pub keeps_here : (view seen : View) (d : Diagram) (steps held : List Step) (b limit : ℕ) → seen ≡ view →
    held ≡ steps → StepsKeep seen d held b limit → StepsKeep view d steps b limit
keeps_here view seen d steps held b limit e f h =
    subst (λ (w : View). StepsKeep w d steps b limit) e (subst (λ (xs : List Step). StepsKeep seen d xs b limit) f h)

pub graphs_keep : (d : Diagram) (steps : List Step) (b m limit : ℕ) → StepsKeep Gap d steps b limit →
    (IsDisconnector d m → StepsKeep Load d steps b limit) → GraphsKeep d steps b m limit
graphs_keep d steps b m limit gap load Gap has = gap
graphs_keep d steps b m limit gap load Load has = load has
