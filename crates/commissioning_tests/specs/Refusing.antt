-- Why bays are not tested, and that they are narrow where they are.
use Rattle.std.specs.Prelude.{◌≡◌, ◌+◌, ◌<◌, ◌≤◌, ℕ, List, Some, length, slice_get, ⊤}
use Rattle.station_graph.specs.declared.items.Switch.{Switch}
use Rattle.station_graph.specs.Diagram.{Diagram, part_count, switches_in}
use Rattle.change_search.specs.Limits.{walk_limit}
use Rattle.step_graphs.specs.declared.step.Step.{Step}
use Rattle.step_graphs.specs.Steps.{AreSteps}
use Rattle.dependence_search.specs.Width.{IsNarrow, IsTooWide}
use Rattle.commissioning_tests.specs.declared.refusal.TestsRefusal.{TestsRefusal}
use Rattle.commissioning_tests.specs.declared.refusal.TestsRefusal.TheVariants.{Memory, Wide}
use Rattle.commissioning_tests.specs.declared.values.SharedTests.{SharedTests}
use Rattle.commissioning_tests.specs.Shared.{AreLeads, AreStationTests, IsTested, tested_switches}

-- How many edges a walk may have where this bay is tested alone.
abbrev pub bay_limit : Diagram → ℕ → ℕ
bay_limit d bay = walk_limit (switches_in d bay)

-- And where each bay is tested that has tests of its own.
abbrev pub station_limit : Diagram → List ℕ → ℕ
station_limit d leads = walk_limit (tested_switches d leads)

-- Along these steps the walk of one of so many switches, from the first on, has more edges than the limit.
pub record SomeIsTooWide (d : Diagram) (steps : List Step) (first count limit : ℕ) : Type 0 where
  pub number : ℕ
  pub after : first ≤ number
  pub before : number < first + count
  pub too_wide : IsTooWide d steps number limit

-- Along these steps the walk of each of them is narrow.
abbrev pub AllAreNarrow : Diagram → List Step → ℕ → ℕ → ℕ → Type 0
AllAreNarrow d steps first count limit = (m : ℕ) → first ≤ m → m < first + count → IsNarrow d steps m limit

-- One of them is too wide along some steps that take in all items of the station, which are more than one.
pub record HaveTooWide (d : Diagram) (first count limit : ℕ) : Type 0 where
  pub steps : List Step
  pub all : AreSteps d steps
  pub some : 1 < length steps
  pub too_wide : SomeIsTooWide d steps first count limit

-- Each of them is narrow along some such steps; of a station with one item alone nothing is walked.
pub record HaveNarrow (d : Diagram) (first count limit : ℕ) : Type 0 where
  pub steps : List Step
  pub all : AreSteps d steps
  pub narrow : 1 < length steps → AllAreNarrow d steps first count limit

-- Along these steps, which take in all items of the station, and more than one, the walk of a switch of this bay is too
-- wide.
pub record IsWideBy (d : Diagram) (steps : List Step) (bay limit : ℕ) : Type 0 where
  pub all : AreSteps d steps
  pub some : 1 < length steps
  pub number : ℕ
  pub switch : Switch
  pub listed : slice_get d.switches number ≡ Some switch
  pub of_bay : switch.bay.0 ≡ bay
  pub too_wide : IsTooWide d steps number limit

-- Along these steps, which take in all items of the station, the walk of each switch of this bay is narrow.
pub record IsNarrowBy (d : Diagram) (steps : List Step) (bay limit : ℕ) : Type 0 where
  pub all : AreSteps d steps
  pub narrow : (number : ℕ) (switch : Switch) → 1 < length steps → slice_get d.switches number ≡ Some switch →
      switch.bay.0 ≡ bay → IsNarrow d steps number limit

-- So it is in some order of taking in.
abbrev pub IsNarrowWithin : Diagram → ℕ → ℕ → Type 0
IsNarrowWithin d bay limit = (steps : List Step) × IsNarrowBy d steps bay limit

-- It is this one of the bays, and in some order of taking in it is too wide.
abbrev pub IsWideBeyond : Diagram → ℕ → ℕ → ℕ → Type 0
IsWideBeyond d bay limit b = (b ≡ bay) × ((steps : List Step) × IsWideBy d steps b limit)

-- The one and the other of a bay that is tested alone.
abbrev pub IsNarrowBay : Diagram → ℕ → Type 0
IsNarrowBay d bay = IsNarrowWithin d bay (bay_limit d bay)

abbrev pub IsThatWideBay : Diagram → ℕ → ℕ → Type 0
IsThatWideBay d bay = IsWideBeyond d bay (bay_limit d bay)

-- An order of taking in for each bay.
abbrev pub Orders : Type 0
Orders = ℕ → List Step

-- By these orders each of the first n parts that has tests of its own is narrow.
abbrev pub AreNarrowBefore : Diagram → List ℕ → Orders → ℕ → Type 0
AreNarrowBefore d leads orders n =
    (p : ℕ) → p < n → IsTested d leads p → IsNarrowBy d (orders p) p (station_limit d leads)

-- So by some orders.
pub record AreNarrowUpto (d : Diagram) (leads : List ℕ) (n : ℕ) : Type 0 where
  pub orders : Orders
  pub narrow : AreNarrowBefore d leads orders n

-- The tests of a station of which by some orders each bay that has tests of its own is narrow.
pub record AreNarrowTests (d : Diagram) (all : List SharedTests) : Type 0 where
  pub are : AreStationTests d all
  pub narrow : AreNarrowUpto d are.leads (part_count d)

-- By some orders this is the first bay that is too wide, of those that have tests of their own.
pub record IsWideBay (d : Diagram) (bay : ℕ) : Type 0 where
  pub leads : List ℕ
  pub are : AreLeads d leads
  pub tested : IsTested d leads bay
  pub orders : Orders
  pub wide : IsWideBy d (orders bay) bay (station_limit d leads)
  pub before : AreNarrowBefore d leads orders bay

-- Why bays are not tested: there was no memory, or a bay is too wide.
abbrev pub IsRefusal : (ℕ → Type 0) → TestsRefusal → Type 0
IsRefusal IsWide Memory = ⊤
IsRefusal IsWide (Wide bay) = IsWide bay.0
