-- The graph of a moved switch: what moving it breaks, for each list of positions of all other switches.
use Rattle.std.specs.Prelude.{◌≡◌, ◌==◌, ℕ, suc, ◌<◌, Bool, List, length, map, slice_get, slice_index, Some}
use Rattle.station_graph.specs.Diagram.{Diagram}
use Rattle.station_graph.specs.Alike.{IsVector}
use Rattle.decision_graphs.specs.Label.{Layer, Layered, layer_at, label_of, leads, AreChoices, AreLayers, AreReduced}
use Rattle.judge_pool.specs.declared.view.View.{View}
use Rattle.judge_pool.specs.Graphs.{other_of, LabelSays}
use Rattle.judge_intake.specs.Coding.{labels_of}
use Rattle.step_graphs.specs.declared.step.Step.{Step}
use Rattle.step_graphs.specs.Steps.{HasPosition}

-- The choices are those that the vector gives, step by step without the one at place b: 0 where the switch of the
-- step is open, 1 where it is closed, and either where the step has no switch.
pub record AreGiven (steps : List Step) (b : ℕ) (v : List Bool) (cs : List ℕ) : Type 0 where
  pub count : suc (length cs) ≡ length steps
  pub small : (j c : ℕ) → slice_get cs j ≡ Some c → c < 2
  pub each : (j c : ℕ) (s : Step) → slice_get cs j ≡ Some c → slice_get steps (other_of 0 b j) ≡ Some s →
      HasPosition s v (c == 1)

-- A graph with a layer of two choices for each step but the one at place b, whose labels say what holds of switch m.
pub record IsMovedGraph (view : View) (d : Diagram) (steps : List Step) (b m : ℕ) (g : Layered) : Type 0 where
  pub fits : AreLayers g.labels g.layers
  pub count : suc (length g.layers) ≡ length steps
  pub choices : (j : ℕ) → j < length g.layers → (layer_at g.layers j).choices ≡ 2
  pub labels : g.labels ≡ labels_of view
  pub reduced : AreReduced g.layers
  pub says : (v : List Bool) (cs : List ℕ) → IsVector d v → AreGiven steps b v cs →
      LabelSays view d m v (label_of g cs)

-- The graph has so many labels and is reduced; where the layers lead to a place of the list, it leads to the label that
-- stands there.
pub record IsLabelledFrom (count : ℕ) (labels : List ℕ) (layers : List Layer) (g : Layered) : Type 0 where
  pub so_many : g.labels ≡ count
  pub fits : AreLayers g.labels g.layers
  pub reduced : AreReduced g.layers
  pub same_choices : map (λ (l : Layer). l.choices) g.layers ≡ map (λ (l : Layer). l.choices) layers
  pub label : 0 < length layers → (cs : List ℕ) → AreChoices layers cs →
      label_of g cs ≡ slice_index labels (leads layers 0 cs)
