-- How many distinct contractions there are over all positions. A contraction is named by a vector that
-- gives it, and Same says of two vectors that they give the same one.
use Rattle.std.specs.Prelude.{◌≡◌, ℕ, ◌+◌, ◌<◌, ◌≤◌, ◌⊎◌, Bool, List, length, slice_get, slice_index, sum, Some}
use Rattle.station_graph.specs.Diagram.{Diagram, AreSwitchesOf}
use Rattle.station_graph.specs.Alike.{IsVector}
use Rattle.part_alphabets.specs.declared.limits.TheConstants.{CONTRACTIONS, LETTERS}
use Rattle.part_alphabets.specs.Layers.{SameLayer}

-- Vectors of the station, no two of which are the same.
pub record AreDistinct (d : Diagram) (Same : List Bool → List Bool → Type 0) (list : List (List Bool)) : Type 0 where
  pub vectors : (i : ℕ) (v : List Bool) → slice_get list i ≡ Some v → IsVector d v
  pub apart : (i k : ℕ) (v w : List Bool) → slice_get list i ≡ Some v → slice_get list k ≡ Some w → Same v w → i ≡ k

-- An entry of the list is the same as the vector.
pub record HasEntry (Same : List Bool → List Bool → Type 0) (list : List (List Bool)) (v : List Bool) : Type 0 where
  pub place : ℕ
  pub entry : List Bool
  pub listed : slice_get list place ≡ Some entry
  pub same : Same v entry

-- There are n distinct ones: a list of n vectors, no two of which are the same, in which each vector of
-- the station has one that is the same.
pub record AreSoMany (d : Diagram) (Same : List Bool → List Bool → Type 0) (n : ℕ) : Type 0 where
  pub list : List (List Bool)
  pub distinct : AreDistinct d Same list
  pub all : (v : List Bool) → IsVector d v → HasEntry Same list v
  pub count : length list ≡ n

-- There are more distinct ones than the limit.
pub record ArePast (d : Diagram) (Same : List Bool → List Bool → Type 0) (limit : ℕ) : Type 0 where
  pub list : List (List Bool)
  pub distinct : AreDistinct d Same list
  pub past : limit < length list

-- Of the part's switches, which are so many from the first on, step j keeps the limits: that of
-- contractions on the way, and that of letters at the end.
pub record StepFits (d : Diagram) (part first count j : ℕ) : Type 0 where
  pub number : ℕ
  pub counted : AreSoMany d (SameLayer d part (first + j)) number
  pub on_the_way : number ≤ CONTRACTIONS
  pub at_end : j ≡ count → number ≤ LETTERS

-- Step j passes a limit.
abbrev pub StepIsPast : Diagram → ℕ → ℕ → ℕ → ℕ → Type 0
StepIsPast d part first count j = ArePast d (SameLayer d part (first + j)) CONTRACTIONS ⊎ ((j ≡ count) × ArePast d
    (SameLayer d part (first + j)) LETTERS)

-- Each step of the part keeps the limits.
pub record PartFits (d : Diagram) (part : ℕ) : Type 0 where
  pub first : ℕ
  pub count : ℕ
  pub switches : AreSwitchesOf d part first count
  pub steps : (j : ℕ) → j ≤ count → StepFits d part first count j

-- Step j of the part is the first that passes a limit.
pub record PartIsPast (d : Diagram) (part step : ℕ) : Type 0 where
  pub first : ℕ
  pub count : ℕ
  pub switches : AreSwitchesOf d part first count
  pub within : (0 < step) × (step ≤ count)
  pub past : StepIsPast d part first count step
  pub before : (j : ℕ) → j < step → StepFits d part first count j

-- So many steps lead through the part: the sum of the numbers of distinct contractions before each of its
-- switches.
pub record AreStepSizes (d : Diagram) (part steps : ℕ) : Type 0 where
  pub first : ℕ
  pub count : ℕ
  pub switches : AreSwitchesOf d part first count
  pub sizes : List ℕ
  pub one_each : length sizes ≡ count
  pub counted : (j : ℕ) → j < count → AreSoMany d (SameLayer d part (first + j)) (slice_index sizes j)
  pub all : sum sizes ≡ steps
