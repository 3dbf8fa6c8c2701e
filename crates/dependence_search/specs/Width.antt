-- When the walk of a switch is too wide, and when it is narrow.
use Rattle.std.specs.Prelude.{ℕ, List}
use Rattle.station_graph.specs.Connection.{a_switch}
use Rattle.station_graph.specs.Diagram.{Diagram}
use Rattle.change_search.specs.Passing.{IsWideSwitchWalk, KeepsSwitchWalk}
use Rattle.step_graphs.specs.declared.step.Step.{Step}
use Rattle.step_graphs.specs.Steps.{TakesIn}

-- Along these steps the walk of switch m has more edges than the limit: one of its graphs before it is reduced, or a product
-- by which they are walked.
pub record IsTooWide (d : Diagram) (steps : List Step) (m limit : ℕ) : Type 0 where
  pub place : ℕ
  pub at : TakesIn steps place (a_switch m)
  pub wide : IsWideSwitchWalk d d steps steps place m m limit

-- Along these steps none of them has more.
pub record IsNarrow (d : Diagram) (steps : List Step) (m limit : ℕ) : Type 0 where
  pub place : ℕ
  pub at : TakesIn steps place (a_switch m)
  pub keeps : KeepsSwitchWalk d d steps steps place m m limit
