-- The walk of a switch, with what is made of it.
use Rattle.std.specs.Prelude.{◌≡◌, ℕ, ◌+◌, List, Some, slice_get}
use Rattle.station_graph.specs.Diagram.{Diagram}
use Rattle.station_graph.specs.Connection.{a_switch}
use Rattle.ilk_base.specs.declared.words.Direction.TheVariants.{ToOff, ToOn}
use Rattle.step_graphs.specs.declared.step.Step.{Step}
use Rattle.step_graphs.specs.Steps.{TakesIn}
use Rattle.dependence_search.specs.RuleWalks.{IsRuleWalk}
use Rattle.dependence_search.specs.Released.{IsReleasedOf}
use Rattle.commissioning_tests.specs.declared.switch_paths.SwitchPaths.{SwitchPaths}
use Rattle.commissioning_tests.specs.Growing.{AreTurnedLayers}

-- It is the walk of switch m, whose step stands at the place that is kept with it; the graphs are those of its two
-- operations, and in the layers that are not marked no choice turns them.
pub record IsHeld (d : Diagram) (steps : List Step) (m : ℕ) (p : SwitchPaths) : Type 0 where
  pub moved : TakesIn steps p.place (a_switch m)
  pub walk : IsRuleWalk d steps p.place m p.walk.graph p.walk.codes.items
  pub opened : IsReleasedOf p.walk.graph p.walk.codes.items ToOff p.opened
  pub closed : IsReleasedOf p.walk.graph p.walk.codes.items ToOn p.closed
  pub opening_layers : AreTurnedLayers p.walk.graph p.walk.codes.items ToOff p.turns_opening.items
  pub closing_layers : AreTurnedLayers p.walk.graph p.walk.codes.items ToOn p.turns_closing.items

-- They are those of the switches from the first on, one after another.
abbrev pub AreHeld : Diagram → List Step → ℕ → List SwitchPaths → Type 0
AreHeld d steps first held = (i : ℕ) (p : SwitchPaths) → slice_get held i ≡ Some p → IsHeld d steps (first + i) p
