-- What holds of the answers of a bay while its switches are taken in one after another.
use Rattle.std.specs.Prelude.{◌≡◌, ℕ, ◌+◌, ◌<◌, ◌≤◌, ◌↔◌, Bool, List, length, slice_get}
use Rattle.std.specs.Prelude.{slice_index, Some}
use Rattle.station_graph.specs.Diagram.{Diagram}
use Rattle.station_graph.specs.Nodes.{Rises}
use Rattle.station_graph.specs.Alike.{IsVector}
use Rattle.contraction.specs.Answers.{Answers}
use Rattle.contraction.specs.Stands.{StandsFor}
use Rattle.part_alphabets.specs.declared.fork.Fork.{Fork}
use Rattle.part_alphabets.specs.Layers.{OfLayer, rank, bits}
use Rattle.part_alphabets.specs.Diagrams.{ForksLeadTo, ForksFit, AreStaged}
use Rattle.bay_contract.specs.Sorting.{AreApart}
use Rattle.bay_contract.specs.Sorting.{KeepsAt}

-- Each of the contractions keeps the nodes that matter from this switch on.
abbrev pub AllKeepAt : Diagram → ℕ → ℕ → List Answers → Type 0
AllKeepAt d part bound values = (i : ℕ) (c : Answers) → slice_get values i ≡ Some c → KeepsAt d part bound c

-- The vector leads to a value that stands for the layer in it, and whose rank is not above its own.
pub record Stops (d : Diagram) (part first j : ℕ) (values : List Answers) (ranks : List ℕ) (forks : List Fork)
    (v : List Bool) : Type 0 where
  pub index : ℕ
  pub value : Answers
  pub listed : slice_get values index ≡ Some value
  pub leads : ForksLeadTo forks v index
  pub stands : StandsFor (OfLayer d part (first + j)) d v value
  pub least : slice_index ranks index ≤ rank first j v

-- The values of a layer with the least rank of each, and the steps that lead to them.
pub record IsLayer (d : Diagram) (part first j : ℕ) (values : List Answers) (ranks : List ℕ)
    (forks : List Fork) : Type 0 where
  pub keep : AllKeepAt d part (first + j) values
  pub apart : AreApart values
  pub stops : (v : List Bool) → IsVector d v → Stops d part first j values ranks forks v
  pub ranks_count : length ranks ≡ length values
  pub rises : Rises ranks
  pub ranked : (i : ℕ) → i < length values → (v : List Bool) → IsVector d v → rank first j v ≡ slice_index ranks i
      → ForksLeadTo forks v i
  pub rank_in : (i : ℕ) → i < length values → (v : List Bool) × IsVector d v × (rank first j v ≡ slice_index ranks i)
  pub fit : ForksFit (length d.switches) (length values) forks
  pub staged : AreStaged first j forks

-- The examples are the same positions as the ranks, as bits.
abbrev pub AreExamples : Diagram → ℕ → ℕ → List ℕ → List ℕ → Type 0
AreExamples d first count ranks examples =
    (i : ℕ) (v : List Bool) → i < length ranks → IsVector d v → (rank first count v ≡ slice_index ranks i) ↔
    (bits first count v ≡ slice_index examples i)
