-- The tests of a station: of bays that are like each other the first is tested.
use Rattle.std.specs.Prelude.{◌≡◌, ◌⊎◌, ◌==◌, ℕ, ◌<◌, List, Some, length, slice_get, slice_index, map, count_by}
use Rattle.std.specs.List.{range_with_len}
use Rattle.station_graph.specs.Diagram.{Diagram, part_count}
use Rattle.central_rules.specs.Meaning.{IsBay}
use Rattle.like_bays.specs.Like.{AreLike}
use Rattle.commissioning_tests.specs.declared.values.SharedTests.{SharedTests}
use Rattle.commissioning_tests.specs.Covering.{AreTestsOf}
use Rattle.commissioning_tests.specs.Listed.{AreThose}

-- The part has tests of its own: the list has the part itself there.
abbrev pub LeadsItself : List ℕ → ℕ → Type 0
LeadsItself leads p = slice_get leads p ≡ Some p

-- The tests of one part are those of another that stands before it: a bay that is like it and has tests of its own.
pub record StandsBefore (d : Diagram) (leads : List ℕ) (one part : ℕ) : Type 0 where
  pub earlier : one < part
  pub bay : IsBay d one
  pub own : LeadsItself leads one
  pub like : AreLike d one part

-- For each part the one whose tests are its tests: itself, or such an earlier bay.
pub record AreLeads (d : Diagram) (leads : List ℕ) : Type 0 where
  pub len : length leads ≡ part_count d
  pub each : (p one : ℕ) → slice_get leads p ≡ Some one → (one ≡ p) ⊎ StandsBefore d leads one p

-- The part is a bay that has tests of its own.
abbrev pub IsTested : Diagram → List ℕ → ℕ → Type 0
IsTested d leads p = IsBay d p × LeadsItself leads p

-- How many switches such bays have.
abbrev pub tested_switches : Diagram → List ℕ → ℕ
tested_switches d leads = count_by (λ x. slice_index leads x.bay.0 == x.bay.0) d.switches

-- The part is a later bay whose tests are those of this one.
abbrev pub IsLater : Diagram → List ℕ → ℕ → ℕ → Type 0
IsLater d leads one p = IsBay d p × (one < p) × (slice_get leads p ≡ Some one)

-- The tests of a bay, and the later bays whose tests they are with the two exchanged, in order.
pub record AreSharedTests (d : Diagram) (leads : List ℕ) (s : SharedTests) : Type 0 where
  pub tests : AreTestsOf d s.bay.0 s.tests
  pub like : AreThose (IsLater d leads s.bay.0) (range_with_len 0 (part_count d)) (map (λ b. b.0) s.like.items)

-- The tests of the first so many parts.
pub record AreTestsUpto (d : Diagram) (leads : List ℕ) (n : ℕ) (all : List SharedTests) : Type 0 where
  pub bays : AreThose (IsTested d leads) (range_with_len 0 n) (map (λ s. s.bay.0) all)
  pub each : (i : ℕ) (s : SharedTests) → slice_get all i ≡ Some s → AreSharedTests d leads s

-- The tests of a station: for each part it is said whose tests are its tests, and those of each bay that has its own are
-- there, in order.
pub record AreStationTests (d : Diagram) (all : List SharedTests) : Type 0 where
  pub leads : List ℕ
  pub are : AreLeads d leads
  pub tests : AreTestsUpto d leads (part_count d) all

-- Bay p is listed as a later one that is like the bay of these tests, and it is.
pub record IsListedAsLike (d : Diagram) (s : SharedTests) (p : ℕ) : Type 0 where
  pub number : ℕ
  pub listed : slice_get (map (λ b. b.0) s.like.items) number ≡ Some p
  pub later : s.bay.0 < p
  pub like : AreLike d s.bay.0 p

-- Bay p is tested by one of these: it is the bay of those tests, or one of the later bays that are like that bay.
pub record IsTestedBy (d : Diagram) (all : List SharedTests) (p : ℕ) : Type 0 where
  pub place : ℕ
  pub shared : SharedTests
  pub at : slice_get all place ≡ Some shared
  pub tests : AreTestsOf d shared.bay.0 shared.tests
  pub bay : (shared.bay.0 ≡ p) ⊎ IsListedAsLike d shared p
