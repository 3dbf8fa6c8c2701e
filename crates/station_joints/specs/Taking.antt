-- How far the items of a station are taken in.
use Rattle.std.specs.Prelude.{◌≡◌, ℕ, ◌<◌, ◌≤◌, ◌⊎◌, List, length, map, slice_get, slice_set, Some}
use Rattle.station_graph.specs.Diagram.{Diagram}
use Rattle.station_graph.specs.Connection.{Item, a_switch, a_link, a_tap}
use Rattle.station_changes.specs.Compare.{SameSwitch}
use Rattle.step_graphs.specs.declared.step.Step.{Step}
use Rattle.step_graphs.specs.declared.step.Step.TheVariants.{OfSwitch}
use Rattle.step_graphs.specs.Steps.{TakesIn, AllFit}
use Rattle.station_joints.specs.declared.pairs.StepPair.{StepPair}
use Rattle.station_joints.specs.Together.{AreTogether}

-- The item is one of the first so many switches, links or taps, or one of more switches.
abbrev pub Upto : (ℕ → Type 0) → ℕ → ℕ → ℕ → Item → Type 0
Upto More s l t (a_switch i) = (i < s) ⊎ More i
Upto More s l t (a_link i) = i < l
Upto More s l t (a_tap i) = i < t

-- No more switches.
abbrev pub NoMore : ℕ → Type 0
NoMore i = ⊥

-- The switch is the same as one of the new station's first e.
abbrev pub SameUpto : Diagram → Diagram → ℕ → ℕ → Type 0
SameUpto o n e i = (k : ℕ) × (k < e) × SameSwitch o n i k

-- Of the old station's items those that are the same as one of the first e of the new one, and the first so many.
abbrev pub Olds : Diagram → Diagram → ℕ → ℕ → ℕ → ℕ → Item → Type 0
Olds o n e s l t = Upto (SameUpto o n e) s l t

-- Of the new station's items the first so many.
abbrev pub News : ℕ → ℕ → ℕ → Item → Type 0
News s l t = Upto NoMore s l t

-- Exactly these items are taken in, each by one step.
pub record HaveTaken (d : Diagram) (These : Item → Type 0) (steps : List Step) : Type 0 where
  pub each : (item : Item) → These item → (p : ℕ) × TakesIn steps p item
  pub only : (p : ℕ) (item : Item) → TakesIn steps p item → These item
  pub once : (p q : ℕ) (item : Item) → TakesIn steps p item → TakesIn steps q item → p ≡ q
  pub fit : AllFit d steps

-- The steps of the old station.
abbrev pub first_steps : List StepPair → List Step
first_steps pairs = map (λ x. x.first) pairs

-- The steps of the new station.
abbrev pub second_steps : List StepPair → List Step
second_steps pairs = map (λ x. x.second) pairs

-- At most so many steps of both stations, taken together, which have taken in exactly these items of the old one and
-- those of the new.
pub record ArePairs (o n : Diagram) (These Those : Item → Type 0) (most : ℕ) (pairs : List StepPair) : Type 0 where
  pub olds : HaveTaken o These (first_steps pairs)
  pub news : HaveTaken n Those (second_steps pairs)
  pub together : (p : ℕ) (x : StepPair) → slice_get pairs p ≡ Some x → AreTogether o n x.first x.second
  pub few : length pairs ≤ most

-- At its place each switch of the first p steps.
abbrev pub ArePlaced : List Step → ℕ → List ℕ → Type 0
ArePlaced steps p places = (q i : ℕ) → q < p → TakesIn steps q (a_switch i) → slice_get places i ≡ Some q

-- The places with that of the step's switch, if it has one.
abbrev pub with_place : Step → ℕ → List ℕ → List ℕ
with_place (OfSwitch id) p places = slice_set places id.0 p
with_place other p places = places

-- If the step has a switch, its number is below n.
abbrev pub HasPlace : Step → ℕ → Type 0
HasPlace (OfSwitch id) n = id.0 < n
HasPlace other n = Unit {0}
