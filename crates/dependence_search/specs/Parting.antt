-- Where choices that differ in one layer part, and how they stay apart.
use Rattle.std.specs.Prelude.{◌≡◌, ◌≢◌, ◌↔◌, ℕ, ◌<◌, ◌-◌, Bool, List, take, drop, length, slice_get, Some}
use Rattle.decision_graphs.specs.Label.{Layer, Layered, layer_at, leads, size_at, step}
use Rattle.decision_graphs.specs.Reaching.{IsSet}
use Rattle.graph_walks.specs.Walks.{AreTwos}
use Rattle.dependence_search.specs.RuleWalks.{turned_at}

-- The two choices at a node lead to different places.
abbrev pub IsParting : Layer → ℕ → Type 0
IsParting l k = step l k 0 ≢ step l k 1

-- Choices in the first so many layers lead from node k to one at which the next two part.
pub record PartsFrom (ls : List Layer) (count k : ℕ) : Type 0 where
  pub before : List ℕ
  pub twos : AreTwos count before
  pub parts : IsParting (layer_at ls count) (leads (take count ls) k before)

-- Of the nodes of layer j exactly those are marked from which so many layers on two choices part.
pub record AreParting (ls : List Layer) (j count : ℕ) (marks : List Bool) : Type 0 where
  pub len : length marks ≡ length (layer_at ls j).rows
  pub each : (k : ℕ) → k < length (layer_at ls j).rows → IsSet marks k ↔ PartsFrom (drop j ls) count k

-- So of the layers from this one back, each by the layers to it.
abbrev pub ArePartingBack : List Layer → ℕ → List (List Bool) → Type 0
ArePartingBack ls layer all =
    (count : ℕ) (marks : List Bool) → slice_get all count ≡ Some marks → AreParting ls (layer - count) count marks

-- The choices of the layers before this one lead to a node of it at which its two part.
pub record LeadToParting (g : Layered) (layer : ℕ) (cs : List ℕ) (node : ℕ) : Type 0 where
  pub twos : AreTwos layer cs
  pub led : leads (take layer g.layers) 0 cs ≡ node
  pub within : node < length (layer_at g.layers layer).rows
  pub parts : IsParting (layer_at g.layers layer) node

-- The choices of the first j layers lead to one place, and with the other choice in this layer to another.
pub record LeadApart (g : Layered) (layer j : ℕ) (cs : List ℕ) (one other : ℕ) : Type 0 where
  pub twos : AreTwos j cs
  pub one_led : leads (take j g.layers) 0 cs ≡ one
  pub other_led : leads (take j g.layers) 0 (turned_at layer cs) ≡ other
  pub one_in : one < size_at g.labels g.layers j
  pub other_in : other < size_at g.labels g.layers j
  pub apart : one ≢ other
