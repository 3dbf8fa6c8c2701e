-- Graphs that were made before, and what they are for every plan that takes in the same.
use Rattle.std.specs.Prelude.{◌≡◌, ℕ, ◌+◌, ◌<◌, ◌≤◌, List, length, map, slice_get, Some}
use Rattle.contraction.specs.Renaming.{KeepsOrder, mapped}
use Rattle.part_alphabets.specs.Counting.{AreSoMany}
use Rattle.decision_graphs.specs.Label.{Layer, layer_at, leads, label_of, AreChoices, AreReduced}
use Rattle.judge_graphs.specs.declared.noted.Intake.{Intake}
use Rattle.judge_graphs.specs.declared.noted.Noted.{Noted}
use Rattle.judge_graphs.specs.declared.noted.TakenGraph.{TakenGraph}
use Rattle.judge_pool.specs.declared.pool.Pool.{Pool}
use Rattle.judge_pool.specs.Folding.{IsExact}
use Rattle.judge_pool.specs.Layering.{values_at}
use Rattle.judge_pool.specs.Places.{pool_on}
use Rattle.judge_pool.specs.Plans.{Plan, PlanFits, PlanHas, AreLinked, plan_diagram, ChosenBy, items_of, NeededBy}
use Rattle.judge_pool.specs.declared.limits.TheConstants.{BAY_EDGES}

-- The letters of the layers, as numbers.
abbrev pub letter_rows : Intake → List (List ℕ)
letter_rows i = map (λ v. v.items) i.letters.items

-- Layers take in the same start, letters and nodes.
pub record SameIntake (i j : Intake) : Type 0 where
  pub start : i.start ≡ j.start
  pub letters : letter_rows i ≡ letter_rows j
  pub keeps : i.keeps.items ≡ j.keeps.items

-- For every plan that takes this in, whatever nodes in the same order stand in place of those that the values keep, the
-- layers are exact, have so many edges, and lead to the values of these names.
pub record AreLaid (p : Pool) (start : ℕ) (letters : List (List ℕ)) (keeps names : List ℕ) (edges : ℕ)
    (layers : List Layer) : Type 0 where
  pub exact : (f : ℕ → ℕ) (plan : Plan) → KeepsOrder f → PlanFits plan (pool_on f p) start letters keeps →
      IsExact p.view (plan_diagram plan) (ChosenBy plan) (items_of plan) (NeededBy plan) (length letters) layers
      (values_at (map (mapped f) p.values.items) names)
  pub has : (f : ℕ → ℕ) (plan : Plan) → KeepsOrder f → PlanFits plan (pool_on f p) start letters keeps →
      PlanHas p.view plan letters (length letters) (AreSoMany (plan_diagram plan)) edges
  pub choices : map (λ (l : Layer). l.choices) layers ≡ map length letters

-- The graph is that of such layers, reduced, and its labels are named.
pub record IsNoted (p : Pool) (n : Noted) : Type 0 where
  pub layers : List Layer
  pub linked : AreLinked p n.intake.start (letter_rows n.intake) n.intake.keeps.items
  pub laid : AreLaid p n.intake.start (letter_rows n.intake) n.intake.keeps.items n.names.items n.edges layers
  pub within : (t i : ℕ) → slice_get n.names.items t ≡ Some i → i < length p.values.items
  pub labels : n.graph.value.labels ≡ length n.names.items
  pub same_choices : map (λ (l : Layer). l.choices) n.graph.value.layers ≡ map (λ (l : Layer). l.choices) layers
  pub label : (cs : List ℕ) → AreChoices layers cs → label_of n.graph.value cs ≡ leads layers 0 cs
  pub reduced : AreReduced n.graph.value.layers
  pub sizes : (j : ℕ) → length (layer_at n.graph.value.layers j).rows ≤ length (layer_at layers j).rows

-- What is noted is so.
abbrev pub AreRight : Pool → List Noted → Type 0
AreRight p notes = (k : ℕ) (n : Noted) → slice_get notes k ≡ Some n → IsNoted p n

-- What is noted is so, and its labels are few.
abbrev pub AreOuter : Pool → List Noted → Type 0
AreOuter p notes =
    (k : ℕ) (n : Noted) → slice_get notes k ≡ Some n → IsNoted p n × (length n.names.items ≤ BAY_EDGES + 1)

-- The graph is the one noted for what is taken in, and with its edges and those left these are so many.
pub record IsTaken (p : Pool) (i : Intake) (budget : ℕ) (o : TakenGraph) : Type 0 where
  pub note : Noted
  pub right : IsNoted p note
  pub same : SameIntake note.intake i
  pub graph : o.graph.value ≡ note.graph.value
  pub names : o.names.items ≡ note.names.items
  pub all : note.edges + o.left ≡ budget
