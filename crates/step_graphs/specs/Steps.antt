-- The items of a station as steps, one after another.
use Rattle.std.specs.Prelude.{◌≡◌, ℕ, ◌<◌, Bool, List, [], ◌∷◌, length, slice_get, Some}
use Rattle.station_graph.specs.Diagram.{Diagram}
use Rattle.station_graph.specs.Connection.{Item, a_switch, a_link, a_tap}
use Rattle.station_graph.specs.Sharing.{TouchedBy}
use Rattle.contraction.specs.Stands.{Among, IsItem}
use Rattle.step_graphs.specs.declared.step.Step.{Step}
use Rattle.step_graphs.specs.declared.step.Step.TheVariants.{OfSwitch, OfLink, OfTap, OfNothing}

-- The item that the step takes in, if it takes one in.
abbrev pub items_in : Step → List Item
items_in (OfSwitch id) = a_switch id.0 ∷ []
items_in (OfLink i) = a_link i ∷ []
items_in (OfTap i) = a_tap i ∷ []
items_in OfNothing = []

-- The step takes in what the station has.
abbrev pub StepFits : Diagram → Step → Type 0
StepFits d (OfSwitch id) = id.0 < length d.switches
StepFits d (OfLink i) = i < length d.links
StepFits d (OfTap i) = i < length d.taps
StepFits d OfNothing = Unit {0}

-- So each of these steps.
abbrev pub AllFit : Diagram → List Step → Type 0
AllFit d steps = (p : ℕ) (s : Step) → slice_get steps p ≡ Some s → StepFits d s

-- The step at this place takes in the item.
pub record TakesIn (steps : List Step) (p : ℕ) (item : Item) : Type 0 where
  pub step : Step
  pub at : slice_get steps p ≡ Some step
  pub among : Among (items_in step) item

-- Each item of the station is taken in by exactly one of the steps, and nothing else is.
pub record AreSteps (d : Diagram) (steps : List Step) : Type 0 where
  pub each : (item : Item) → IsItem d item → (p : ℕ) × TakesIn steps p item
  pub once : (p q : ℕ) (item : Item) → TakesIn steps p item → TakesIn steps q item → p ≡ q
  pub fit : AllFit d steps

-- The item of the step touches the node.
abbrev pub StepTouches : Diagram → Step → ℕ → Type 0
StepTouches d s n = TouchedBy (Among (items_in s)) d n

-- In the vector the switch of the step has this position; no other step has one.
abbrev pub HasPosition : Step → List Bool → Bool → Type 0
HasPosition (OfSwitch id) v closed = slice_get v id.0 ≡ Some closed
HasPosition (OfLink i) v closed = Unit {0}
HasPosition (OfTap i) v closed = Unit {0}
HasPosition OfNothing v closed = Unit {0}
