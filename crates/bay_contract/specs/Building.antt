-- Layers of values, and what is built of the last one.
use Rattle.std.specs.Prelude.{◌≡◌, ℕ, ◌+◌, ◌*◌, ◌/◌, ◌%◌, ◌<◌, ◌≤◌, ◌⊎◌, ◌↔◌, Bool, List, length, slice_get}
use Rattle.std.specs.Prelude.{slice_index, Some}
use Rattle.station_graph.specs.Diagram.{Diagram, AreSwitchesOf}
use Rattle.station_graph.specs.Sharing.{OfPart, IsShared}
use Rattle.station_graph.specs.Alike.{IsVector}
use Rattle.contraction.specs.Answers.{Answers, IsContraction, Keeps}
use Rattle.contraction.specs.Stands.{StandsFor}
use Rattle.part_alphabets.specs.declared.limits.TheConstants.{LETTERS}
use Rattle.part_alphabets.specs.declared.fork.Fork.{Fork}
use Rattle.part_alphabets.specs.Layers.{rank, bits}
use Rattle.part_alphabets.specs.Diagrams.{ForksLeadTo, ForksFit}
use Rattle.part_alphabets.specs.PartAlphabets.{PartAlphabet}
use Rattle.bay_contract.specs.Sorting.{AreApart}

-- A step was added for each value of the last layer: places 2i and 2i + 1 say where value i leads.
pub record Forked (switch count : ℕ) (targets : List ℕ) (old new : List Fork) : Type 0 where
  pub len : length new ≡ length old + count
  pub kept : (a : ℕ) (f : Fork) → slice_get old a ≡ Some f → slice_get new a ≡ Some f
  pub added : (i : ℕ) → i < count → slice_get new (length old + i) ≡ Some (record {
    switch = record { 0 = switch };
    off = length new + slice_index targets (2 * i);
    on = length new + slice_index targets (2 * i + 1);
  })
  pub none_else : (a : ℕ) (f : Fork) → slice_get new a ≡ Some f → (slice_get old a ≡ Some f) ⊎ ((length old ≤ a)
      × (a < length new))

-- The rank of each new value is that of the value from which its first place goes on, with one digit more.
pub record Ranked (last origins ranks : List ℕ) : Type 0 where
  pub len : length ranks ≡ length origins
  pub told : (n : ℕ) → n < length origins → slice_index ranks n ≡ 2 * slice_index last
      (slice_index origins n / 2) + slice_index origins n % 2

-- What is built for a part: its distinct contractions on the nodes that it shares, each with its least
-- position as bits, and the steps that lead each vector to one of them.
pub record IsBuilt (d : Diagram) (part first count : ℕ) (values : List Answers) (examples : List ℕ)
    (forks : List Fork) : Type 0 where
  pub switches : AreSwitchesOf d part first count
  pub size : (0 < length values) × (length values ≤ LETTERS)
  pub contractions : (i : ℕ) (c : Answers) → slice_get values i ≡ Some c → IsContraction c
  pub apart : AreApart values
  pub kept : (i : ℕ) (c : Answers) → slice_get values i ≡ Some c → (n : ℕ) → Keeps c.kept n ↔ IsShared d part n
  pub leads : (v : List Bool) → IsVector d v → (i : ℕ) × (i < length values) × ForksLeadTo forks v i
  pub one : (v : List Bool) (i k : ℕ) → ForksLeadTo forks v i → ForksLeadTo forks v k → i ≡ k
  pub stands : (v : List Bool) (i : ℕ) (c : Answers) → IsVector d v → ForksLeadTo forks v i
      → slice_get values i ≡ Some c
      → StandsFor (OfPart d part) d v c
  pub examples_count : length examples ≡ length values
  pub example_some : (i : ℕ) → i < length values → (v : List Bool) × IsVector d v
      × (bits first count v ≡ slice_index examples i)
  pub example : (i : ℕ) (v : List Bool) → i < length values → IsVector d v
      → bits first count v ≡ slice_index examples i → ForksLeadTo forks v i
  pub least : (i : ℕ) (v w : List Bool) → IsVector d v → IsVector d w → ForksLeadTo forks v i
      → bits first count w ≡ slice_index examples i → rank first count w ≤ rank first count v
  pub ordered : (i k : ℕ) (v w : List Bool) → i < k → k < length values → IsVector d v → IsVector d w
      → bits first count v ≡ slice_index examples i → bits first count w ≡ slice_index examples k
      → rank first count v < rank first count w
  pub fit : ForksFit (length d.switches) (length values) forks

-- This alphabet is built for the part.
pub record IsBuiltFor (d : Diagram) (part : ℕ) (x : PartAlphabet) : Type 0 where
  pub switches : x.switches ≡ length d.switches
  pub built : IsBuilt d part x.first x.count x.letters x.examples x.forks

-- Each number is that of the rank at its place as bits.
pub record AreReversed (count : ℕ) (ranks examples : List ℕ) : Type 0 where
  pub len : length examples ≡ length ranks
  pub told : (i first : ℕ) (v : List Bool) → i < length ranks → rank first count v ≡ slice_index ranks i
      → bits first count v ≡ slice_index examples i
