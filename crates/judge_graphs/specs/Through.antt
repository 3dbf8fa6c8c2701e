-- What two graphs in a row say of a switch of a bay, whatever the labels between them name.
use Rattle.std.specs.Prelude.{◌≡◌, ℕ, suc, ◌<◌, Bool, List, ◌∷◌, length}
use Rattle.station_graph.specs.Diagram.{part_count}
use Rattle.station_graph.specs.Alike.{IsVector}
use Rattle.decision_graphs.specs.Label.{Layered, layer_at, label_of, AreLayers}
use Rattle.judge_pool.specs.declared.view.View.{View}
use Rattle.judge_pool.specs.Lettered.{Lettered, index_count}
use Rattle.judge_pool.specs.Folding.{AreChosen}
use Rattle.judge_pool.specs.Graphs.{other_of, PartChosen, SwitchChosen, LabelSays}

-- The graph has one layer for each other part than the bay, whose choices are that part's indices.
pub record IsOfOthers (a : Lettered) (b : ℕ) (g : Layered) : Type 0 where
  pub fits : AreLayers g.labels g.layers
  pub count : suc (length g.layers) ≡ part_count a.diagram
  pub choices : (j : ℕ) → j < length g.layers → (layer_at g.layers j).choices ≡ index_count a (other_of 0 b j)

-- The second graph has first a layer whose choices are the labels of the first graph, and then one for each other switch
-- of the bay. What a vector gives the two leads through both of them to a label that says what holds of switch m in it.
pub record SaysThrough (view : View) (a : Lettered) (b m first others : ℕ) (outer inner : Layered) : Type 0 where
  pub fits : AreLayers inner.labels inner.layers
  pub count : length inner.layers ≡ suc others
  pub first_choices : (layer_at inner.layers 0).choices ≡ outer.labels
  pub choices : (i : ℕ) → i < others → (layer_at inner.layers (suc i)).choices ≡ 2
  pub says : (v : List Bool) (cs ds : List ℕ) → IsVector a.diagram v → length cs ≡ length outer.layers →
      AreChosen (PartChosen a b) v cs → length ds ≡ others → AreChosen (SwitchChosen first m) v ds →
      LabelSays view a.diagram m v (label_of inner (label_of outer cs ∷ ds))
