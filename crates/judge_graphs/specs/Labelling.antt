-- Noted graphs with other labels in place of their own.
use Rattle.std.specs.Prelude.{◌≡◌, ℕ, ◌<◌, ◌≤◌, List, length, map, slice_get, slice_index, Some}
use Rattle.decision_graphs.specs.Label.{Layer, Layered, layer_at, label_of, AreChoices, AreLayers, AreReduced}
use Rattle.judge_graphs.specs.declared.noted.Noted.{Noted}
use Rattle.judge_graphs.specs.declared.labelled.Labelled.{Labelled}
use Rattle.judge_graphs.specs.declared.labelled.InnerNotes.{InnerNotes}
use Rattle.judge_pool.specs.declared.pool.Pool.{Pool}
use Rattle.judge_intake.specs.Coding.{labels_of}
use Rattle.judge_graphs.specs.Noting.{AreRight}

-- The second graph has so many labels and is reduced, and where the first leads to a label, it leads to what stands in
-- its place in the list.
pub record IsLabelled (count : ℕ) (labels : List ℕ) (g h : Layered) : Type 0 where
  pub so_many : h.labels ≡ count
  pub fits : AreLayers h.labels h.layers
  pub reduced : AreReduced h.layers
  pub same_choices : map (λ (l : Layer). l.choices) h.layers ≡ map (λ (l : Layer). l.choices) g.layers
  pub label : 0 < length g.layers → (cs : List ℕ) → AreChoices g.layers cs →
      label_of h cs ≡ slice_index labels (label_of g cs)
  pub sizes : (j : ℕ) → length (layer_at h.layers j).rows ≤ length (layer_at g.layers j).rows

-- Each is the graph of a note with its labels.
abbrev pub AreLabelled : ℕ → List Noted → List Labelled → Type 0
AreLabelled count notes known = (k : ℕ) (l : Labelled) → slice_get known k ≡ Some l →
    (n : Noted) × (slice_get notes l.place ≡ Some n) × IsLabelled count l.labels.items n.graph.value l.graph

-- What is noted of the inner graphs of one view is so.
pub record AreInnerNotes (p : Pool) (notes : InnerNotes) : Type 0 where
  pub graphs : AreRight p notes.graphs.items
  pub labelled : AreLabelled (labels_of p.view) notes.graphs.items notes.labelled.items
