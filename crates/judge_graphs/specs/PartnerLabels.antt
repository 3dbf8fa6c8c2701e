-- Which labels of an outer graph the inner graphs tell apart, the outer graph with the others made one, and of
-- which layers of it the inner graphs tell.
use Rattle.std.specs.Prelude.{◌≡◌, ◌≢◌, ℕ, ◌<◌, ◌≤◌, List, ◌∷◌, length, drop, map, slice_get, slice_index}
use Rattle.std.specs.Prelude.{slice_index_or, Some}
use Rattle.decision_graphs.specs.Label.{Layer, Layered, layer_at, step, label_of, AreChoices, AreLayers, AreReduced}

-- Where the first choice of an inner graph leads: to a node of its second layer, or to a label where it has no other.
abbrev pub entry : Layered → ℕ → ℕ
entry g x = step (layer_at g.layers 0) 0 x

-- An inner graph: reduced, and the choices of its first layer are so many labels.
pub record IsInnerOf (labels : ℕ) (g : Layered) : Type 0 where
  pub fits : AreLayers g.labels g.layers
  pub reduced : AreReduced g.layers
  pub some : 0 < length g.layers
  pub outer : (layer_at g.layers 0).choices ≡ labels

-- Each graph is an inner one of so many labels.
abbrev pub AreInnersOf : ℕ → List Layered → Type 0
AreInnersOf labels inners = (i : ℕ) (g : Layered) → slice_get inners i ≡ Some g → IsInnerOf labels g

-- The inner graph does not tell the two labels apart: whatever its other choices are, both lead to one label of it.
abbrev pub TellsNot : Layered → ℕ → ℕ → Type 0
TellsNot g x y = (ds : List ℕ) → AreChoices (drop 1 g.layers) ds → label_of g (x ∷ ds) ≡ label_of g (y ∷ ds)

-- None of the inner graphs tells the two labels apart.
abbrev pub AreOne : List Layered → ℕ → ℕ → Type 0
AreOne inners x y = (i : ℕ) (g : Layered) → slice_get inners i ≡ Some g → TellsNot g x y

-- Of the labels that are one with x this is the least.
pub record IsLeastOf (inners : List Layered) (x name : ℕ) : Type 0 where
  pub one : AreOne inners name x
  pub below : name ≤ x
  pub least : (y : ℕ) → y < name → ¬ AreOne inners y x

-- For each label the least that is one with it.
pub record AreLeastLabels (inners : List Layered) (labels : ℕ) (names : List ℕ) : Type 0 where
  pub count : length names ≡ labels
  pub each : (x : ℕ) → x < labels → IsLeastOf inners x (slice_index names x)

-- The graph with each label replaced by its name.
pub record IsRenamed (outer : Layered) (names : List ℕ) (copy : Layered) : Type 0 where
  pub choices : map (λ (l : Layer). l.choices) copy.layers ≡ map (λ (l : Layer). l.choices) outer.layers
  pub label : 0 < length outer.layers → (cs : List ℕ) → AreChoices outer.layers cs →
      label_of copy cs ≡ slice_index names (label_of outer cs)

-- The outer graph with each label replaced by the least label that no inner graph tells apart from it, reduced.
pub record IsMerged (outer : Layered) (inners : List Layered) (merged : Layered) : Type 0 where
  pub names : List ℕ
  pub least : AreLeastLabels inners outer.labels names
  pub renamed : IsRenamed outer names merged
  pub labels : merged.labels ≡ outer.labels
  pub reduced : AreReduced merged.layers
  pub fits : AreLayers merged.labels merged.layers

-- The graphs tell of a layer of the outer graph: two lists of choices of it agree in every layer but this one, and some
-- inner graph leads the labels to which they lead, with the same other choices, to different labels.
pub record TellsOf (outer : Layered) (inners : List Layered) (layer : ℕ) : Type 0 where
  pub one : List ℕ
  pub other : List ℕ
  pub one_fits : AreChoices outer.layers one
  pub other_fits : AreChoices outer.layers other
  pub agree : (i : ℕ) → i ≢ layer → slice_index_or one i 0 ≡ slice_index_or other i 0
  pub place : ℕ
  pub graph : Layered
  pub listed : slice_get inners place ≡ Some graph
  pub rest : List ℕ
  pub rest_fits : AreChoices (drop 1 graph.layers) rest
  pub apart : label_of graph (label_of outer one ∷ rest) ≢ label_of graph (label_of outer other ∷ rest)
