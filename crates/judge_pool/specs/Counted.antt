-- How many edges the graphs of a bay have, by the distinct views between their layers.
use Rattle.std.specs.Prelude.{◌≡◌, ℕ, zero, suc, ◌+◌, ◌-◌, ◌*◌, ◌<◌, ◌≤◌, Bool, List, ◌∷◌, [], ◌++◌, length, slice_get}
use Rattle.std.specs.Prelude.{Some, sum, sum_by}
use Rattle.station_graph.specs.Diagram.{Diagram, part_count, AreSwitchesOf}
use Rattle.station_graph.specs.Connection.{Item, a_switch}
use Rattle.station_graph.specs.Alike.{Alike}
use Rattle.contraction.specs.Stands.{Among}
use Rattle.part_alphabets.specs.Counting.{AreDistinct, AreSoMany}
use Rattle.decision_graphs.specs.Label.{Layer, Layered, layer_at}
use Rattle.judge_pool.specs.declared.view.View.{View}
use Rattle.judge_pool.specs.declared.view.View.TheVariants.{Gap, Load}
use Rattle.judge_pool.specs.Seen.{SameView}
use Rattle.judge_pool.specs.Graphs.{other_of}
use Rattle.judge_pool.specs.Listing.{own_links, parts_before}
use Rattle.judge_pool.specs.Needing.{IsNeededOuter, IsNeededInner}

-- There are at least n distinct ones: n vectors, no two of which are the same.
pub record AreAtLeast (d : Diagram) (Same : List Bool → List Bool → Type 0) (n : ℕ) : Type 0 where
  pub list : List (List Bool)
  pub distinct : AreDistinct d Same list
  pub count : length list ≡ n

-- In v and w the first j other parts have this view in common, on the nodes that they and the bay or a later
-- part touch.
abbrev pub SameOuter : View → Diagram → ℕ → ℕ → List Bool → List Bool → Type 0
SameOuter view d b j v w = SameView view (IsNeededOuter d b j) (Among (parts_before d b j)) d v w

-- The bay's links and taps, all other parts, and the first i of the bay's switches other than m.
abbrev pub before_switch : Diagram → ℕ → ℕ → ℕ → ℕ → List Item
before_switch d b m first zero = own_links d b ++ parts_before d b (part_count d - 1)
before_switch d b m first (suc i) = before_switch d b m first i ++ a_switch (other_of first m i) ∷ []

-- In v and w these have this view in common, on the nodes that m and the bay's later switches touch.
abbrev pub SameInner : View → Diagram → ℕ → ℕ → ℕ → ℕ → ℕ → List Bool → List Bool → Type 0
SameInner view d b m first others i v w =
    SameView view (IsNeededInner d m first others i) (Among (before_switch d b m first i)) d v w

-- How many distinct views there are before a layer, and how many choices each has in it.
pub record Size : Type 0 where
  pub views : ℕ
  pub choices : ℕ

-- A layer has an edge for each view before it and each choice.
abbrev pub edges_in : Size → ℕ
edges_in s = s.views * s.choices

-- Below, `Many Same n` says that there are n vectors that are not the same: exactly so many, or at least.

-- Before each of the first n other parts there are so many distinct views, each with an edge for each index of
-- the part.
pub record OuterHas (view : View) (d : Diagram) (b n : ℕ) (Many : (List Bool → List Bool → Type 0) → ℕ → Type 0)
    (edges : ℕ) : Type 0 where
  pub sizes : List Size
  pub len : length sizes ≡ n
  pub views : (j : ℕ) (s : Size) → slice_get sizes j ≡ Some s → Many (SameOuter view d b j) s.views
  pub indices : (j : ℕ) (s : Size) → slice_get sizes j ≡ Some s → AreSoMany d (Alike d (other_of 0 b j)) s.choices
  pub all : sum_by edges_in sizes ≡ edges

-- Before each of the first n switches other than m there are so many distinct views, each with two edges.
pub record InnerHas (view : View) (d : Diagram) (b m first others n : ℕ)
    (Many : (List Bool → List Bool → Type 0) → ℕ → Type 0) (edges : ℕ) : Type 0 where
  pub sizes : List ℕ
  pub len : length sizes ≡ n
  pub views : (i size : ℕ) → slice_get sizes i ≡ Some size → Many (SameInner view d b m first others i) size
  pub all : 2 * sum sizes ≡ edges

-- So many edges has the graph of this switch.
pub record SwitchHas (view : View) (d : Diagram) (b m first count : ℕ)
    (Many : (List Bool → List Bool → Type 0) → ℕ → Type 0) (edges : ℕ) : Type 0 where
  pub others : ℕ
  pub one_more : suc others ≡ count
  pub inner : InnerHas view d b m first others others Many edges

-- So many edges have the graphs of the first n of the bay's switches together.
pub record SwitchesHave (view : View) (d : Diagram) (b first count n : ℕ)
    (Many : (List Bool → List Bool → Type 0) → ℕ → Type 0) (edges : ℕ) : Type 0 where
  pub each : List ℕ
  pub len : length each ≡ n
  pub graphs : (i size : ℕ) → slice_get each i ≡ Some size → SwitchHas view d b (first + i) first count Many size
  pub all : sum each ≡ edges

-- So many edges have the graphs of one view of the bay.
pub record ViewHas (view : View) (d : Diagram) (b first count : ℕ)
    (Many : (List Bool → List Bool → Type 0) → ℕ → Type 0) (edges : ℕ) : Type 0 where
  pub others : ℕ
  pub one_more : suc others ≡ part_count d
  pub outer_edges : ℕ
  pub inner_edges : ℕ
  pub outer : OuterHas view d b others Many outer_edges
  pub inner : SwitchesHave view d b first count count Many inner_edges
  pub all : outer_edges + inner_edges ≡ edges

-- So many edges have the graphs of the bay.
pub record BayHas (d : Diagram) (b : ℕ) (Many : (List Bool → List Bool → Type 0) → ℕ → Type 0)
    (edges : ℕ) : Type 0 where
  pub first : ℕ
  pub count : ℕ
  pub switches : AreSwitchesOf d b first count
  pub gap_edges : ℕ
  pub load_edges : ℕ
  pub gap : ViewHas Gap d b first count Many gap_edges
  pub load : ViewHas Load d b first count Many load_edges
  pub all : gap_edges + load_edges ≡ edges

-- There are exactly so many edges, and with what is left these are the limit.
pub record Spends (Has : ((List Bool → List Bool → Type 0) → ℕ → Type 0) → ℕ → Type 0) (d : Diagram)
    (limit left : ℕ) : Type 0 where
  pub edges : ℕ
  pub has : Has (AreSoMany d) edges
  pub all : edges + left ≡ limit

-- There are more edges than the limit: already so many distinct views are at hand that these have more.
pub record Passes (Has : ((List Bool → List Bool → Type 0) → ℕ → Type 0) → ℕ → Type 0) (d : Diagram)
    (limit : ℕ) : Type 0 where
  pub edges : ℕ
  pub has : Has (AreAtLeast d) edges
  pub past : limit < edges

-- A layer has no more nodes than there are distinct vectors.
pub record HasFewNodes (d : Diagram) (Same : List Bool → List Bool → Type 0) (l : Layer) : Type 0 where
  pub count : ℕ
  pub counted : AreSoMany d Same count
  pub few : length l.rows ≤ count

-- No layer of an outer graph has more nodes than there are distinct views before it.
abbrev pub OuterIsSmall : View → Diagram → ℕ → Layered → Type 0
OuterIsSmall view d b g = (j : ℕ) → j < length g.layers → HasFewNodes d (SameOuter view d b j) (layer_at g.layers j)

-- No layer of an inner graph of switch m behind the first has more nodes than there are distinct views before it.
abbrev pub InnerIsSmall : View → Diagram → ℕ → ℕ → ℕ → ℕ → Layered → Type 0
InnerIsSmall view d b m first others g =
    (i : ℕ) → i < others → HasFewNodes d (SameInner view d b m first others i) (layer_at g.layers (suc i))
