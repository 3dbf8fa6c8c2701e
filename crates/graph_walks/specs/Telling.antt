-- Graphs that tell the same lists of choices apart.
use Rattle.std.specs.Prelude.{◌≡◌, ℕ, ◌↔◌, List}
use Rattle.decision_graphs.specs.Label.{Layered, label_of, AreLayers, AreReduced}
use Rattle.graph_walks.specs.Walks.{AreTwos, HasTwos}

-- The graph has n layers of two choices, and no two nodes of one layer have equal edges.
pub record IsReduced (n : ℕ) (g : Layered) : Type 0 where
  pub twos : HasTwos n g
  pub fits : AreLayers g.labels g.layers
  pub reduced : AreReduced g.layers

-- Both are such graphs, and two lists of choices lead to one label of the first exactly where they lead to one of the
-- second.
pub record TellAlike (n : ℕ) (g h : Layered) : Type 0 where
  pub first : IsReduced n g
  pub second : IsReduced n h
  pub alike : (cs ds : List ℕ) → AreTwos n cs → AreTwos n ds →
      (label_of g cs ≡ label_of g ds) ↔ (label_of h cs ≡ label_of h ds)
