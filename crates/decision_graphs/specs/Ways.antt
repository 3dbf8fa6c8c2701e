-- Edges of a layer that lead to all places of what comes after it.
use Rattle.std.specs.Prelude.{◌≡◌, ℕ, ◌+◌, ◌*◌, ◌<◌, ◌⊎◌, List, Bool, length, slice_index, slice_index_or}
use Rattle.decision_graphs.specs.Shapes.{place, edge_count}
use Rattle.decision_graphs.specs.Reaching.{IsSet}
use Rattle.decision_graphs.specs.Arriving.{Stays, arrival_at}
use Rattle.decision_graphs.specs.declared.arrival.Arrival.{Arrival}
use Rattle.decision_graphs.specs.declared.shape.Shape.{Shape}

-- For each place to which an edge of the layer may lead, in order, the place of an edge that leads there among the
-- edges of the layer.
pub record AreWays (s : Shape) (es ways : List ℕ) : Type 0 where
  pub within : (t : ℕ) → t < length ways → slice_index ways t < edge_count s
  pub lead : (t : ℕ) → t < length ways → slice_index_or es (s.base + slice_index ways t) 0 ≡ t
  pub all : (k c : ℕ) → k < s.nodes → c < s.choices → slice_index_or es (place s k c) 0 < length ways

-- Every node of the layer is marked.
abbrev pub AllMarked : Shape → List Bool → Type 0
AllMarked s seen = (k : ℕ) → k < s.nodes → IsSet seen (s.first + k)

-- Each of the first n choices is allowed.
abbrev pub AllAllowed : ℕ → List Bool → Type 0
AllAllowed n allowed = (c : ℕ) → c < n → IsSet allowed c

-- The place i is one of n from this one on.
pub record IsOneOf (n next i : ℕ) : Type 0 where
  pub to : ℕ
  pub to_in : to < n
  pub is : next + to ≡ i

-- What is noted is the edge at the place p among those of the layer.
pub record IsEdgeNote (s : Shape) (p : ℕ) (a : Arrival) : Type 0 where
  pub node : ℕ
  pub node_in : node < s.nodes
  pub node_is : a.node ≡ s.first + node
  pub choice_in : a.choice < s.choices
  pub place_is : node * s.choices + a.choice ≡ p

-- One of the first n of these edges leads to the place i.
pub record WayArrives (n : ℕ) (s : Shape) (ways : List ℕ) (next i : ℕ) (a : Arrival) : Type 0 where
  pub to : ℕ
  pub to_in : to < n
  pub is : next + to ≡ i
  pub noted : IsEdgeNote s (slice_index ways to) a

-- Place by place, where nothing stayed as it was one of the first n of these edges leads there.
abbrev pub WayNotes : ℕ → Shape → List ℕ → ℕ → List Bool → List Bool → List Arrival → List Arrival → Type 0
WayNotes n s ways next old new before after =
    (i : ℕ) → Stays old new before after i ⊎ WayArrives n s ways next i (arrival_at after i)
