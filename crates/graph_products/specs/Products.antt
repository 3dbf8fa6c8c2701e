-- Two graphs walked together.
use Rattle.std.specs.Prelude.{◌≡◌, ℕ, suc, ◌+◌, ◌*◌, ◌<◌, ◌≤◌, List, [], ◌∷◌, length, map, slice_get, slice_index_or, Some}
use Rattle.std.specs.Prelude.{Bool, take}
use Rattle.decision_graphs.specs.Label.{Layer, Layered, layer_at, step, leads, label_of, AreAllowed, Reaches}
use Rattle.graph_products.specs.declared.pair.Pair.{Pair}
use Rattle.graph_products.specs.declared.row.Row.{Row}

-- The row that is none.
abbrev pub no_row : Row
no_row = record { first = 0; second = 0 }

-- The row at a place.
abbrev pub row_at : List Row → ℕ → Row
row_at rows c = slice_index_or rows c no_row

-- The rows of step j.
abbrev pub rows_at : List (List Row) → ℕ → List Row
rows_at rss j = slice_index_or rss j []

-- One row of each step.
abbrev pub AreRows : List (List Row) → List ℕ → Type 0
AreRows [] [] = Unit {0}
AreRows [] (c ∷ cs) = ⊥
AreRows (rs ∷ rss) [] = ⊥
AreRows (rs ∷ rss) (c ∷ cs) = (c < length rs) × AreRows rss cs

-- The choices of the first graph along a list of rows.
abbrev pub firsts : List (List Row) → List ℕ → List ℕ
firsts [] cs = []
firsts (rs ∷ rss) [] = []
firsts (rs ∷ rss) (c ∷ cs) = (row_at rs c).first ∷ firsts rss cs

-- The choices of the second graph along a list of rows.
abbrev pub seconds : List (List Row) → List ℕ → List ℕ
seconds [] cs = []
seconds (rs ∷ rss) [] = []
seconds (rs ∷ rss) (c ∷ cs) = (row_at rs c).second ∷ seconds rss cs

-- There is a row, and each is a choice of both layers.
pub record RowsFit (l m : Layer) (rows : List Row) : Type 0 where
  pub some : 0 < length rows
  pub first : (c : ℕ) → c < length rows → (row_at rows c).first < l.choices
  pub second : (c : ℕ) → c < length rows → (row_at rows c).second < m.choices

-- There is a step for each layer of both graphs, and its rows are choices of both.
pub record StepsFit (g h : Layered) (rss : List (List Row)) : Type 0 where
  pub first : length g.layers ≡ length rss
  pub second : length h.layers ≡ length rss
  pub rows : (j : ℕ) → j < length rss → RowsFit (layer_at g.layers j) (layer_at h.layers j) (rows_at rss j)

-- The pair of these two.
abbrev pub pair_of : ℕ → ℕ → Pair
pair_of a b = record { first = a; second = b }

-- The pair that is none.
abbrev pub no_pair : Pair
no_pair = pair_of 0 0

-- The row leads from the pair of nodes x of two layers to the pair y.
abbrev pub LeadsJointly : Layer → Layer → Pair → Row → Pair → Type 0
LeadsJointly l m x r y = y ≡ pair_of (step l x.first r.first) (step m x.second r.second)

-- Some list of rows leads in the graph to this label.
pub record IsHit (p : Layered) (rss : List (List Row)) (t : ℕ) : Type 0 where
  pub rows : List ℕ
  pub are_rows : AreRows rss rows
  pub led : label_of p rows ≡ t

-- At this place of the list stands the pair of these two.
abbrev pub StandsThere : List Pair → ℕ → ℕ → ℕ → Type 0
StandsThere pairs t a b = slice_get pairs t ≡ Some (pair_of a b)

-- Where the first j choices of a list lead in a graph.
abbrev pub front_of : Layered → ℕ → List ℕ → ℕ
front_of g j cs = leads (take j g.layers) 0 cs

-- Lists of rows of the first j steps whose choices lead both graphs to the same nodes lead the third to one node.
abbrev pub MeetAt : Layered → Layered → List (List Row) → Layered → ℕ → Type 0
MeetAt g h rss p j =
    (cs ds : List ℕ) → AreRows (take j rss) cs → AreRows (take j rss) ds →
    front_of g j (firsts (take j rss) cs) ≡ front_of g j (firsts (take j rss) ds) →
    front_of h j (seconds (take j rss) cs) ≡ front_of h j (seconds (take j rss) ds) → front_of p j cs ≡ front_of p j ds

-- The third graph is the product of two by these steps: its choices are the rows; every list of rows leads to the label
-- that stands for the pair of labels to which the choices of both lead; no two labels stand for one pair, and to each
-- leads a list of rows; and before each step there is one node for each pair of nodes.
pub record IsProductOf (g h : Layered) (rss : List (List Row)) (p : Layered) (pairs : List Pair) : Type 0 where
  pub choices : map (λ (l : Layer). l.choices) p.layers ≡ map length rss
  pub count : p.labels ≡ length pairs
  pub pair : (cs : List ℕ) → AreRows rss cs →
      StandsThere pairs (label_of p cs) (label_of g (firsts rss cs)) (label_of h (seconds rss cs))
  pub apart : (s t a b : ℕ) → StandsThere pairs s a b → StandsThere pairs t a b → s ≡ t
  pub hit : (t : ℕ) → t < length pairs → IsHit p rss t
  pub meet : (j : ℕ) → j ≤ length rss → MeetAt g h rss p j

-- A list of rows of the first j steps leads to this pair.
pub record IsFront (g h : Layered) (rss : List (List Row)) (j : ℕ) (x : Pair) : Type 0 where
  pub rows : List ℕ
  pub are_rows : AreRows (take j rss) rows
  pub is : x ≡ pair_of (front_of g j (firsts (take j rss) rows)) (front_of h j (seconds (take j rss) rows))

-- By rows of the first j steps n different pairs of nodes are reached: a list has n pairs, none of them twice, each of
-- them reached, and it has every pair that is.
pub record AreSoManyPairs (g h : Layered) (rss : List (List Row)) (j n : ℕ) : Type 0 where
  pub pairs : List Pair
  pub count : length pairs ≡ n
  pub none_twice : (a b : ℕ) (x : Pair) → slice_get pairs a ≡ Some x → slice_get pairs b ≡ Some x → a ≡ b
  pub each : (t : ℕ) (x : Pair) → slice_get pairs t ≡ Some x → IsFront g h rss j x
  pub all : (cs : List ℕ) → AreRows (take j rss) cs → (t : ℕ)
      × StandsThere pairs t (front_of g j (firsts (take j rss) cs)) (front_of h j (seconds (take j rss) cs))

-- So many pairs are reached before each of the steps from step j on.
abbrev pub AreCounts : Layered → Layered → List (List Row) → ℕ → List ℕ → Type 0
AreCounts g h rss j [] = Unit {0}
AreCounts g h rss j (n ∷ ns) = AreSoManyPairs g h rss j n × AreCounts g h rss (suc j) ns

-- How many edges a product has with so many nodes before its steps.
abbrev pub edges_of : List ℕ → List (List Row) → ℕ
edges_of [] rss = 0
edges_of (n ∷ ns) [] = 0
edges_of (n ∷ ns) (rs ∷ rss) = n * length rs + edges_of ns rss

-- The product up to some step has more edges than these.
pub record IsWide (g h : Layered) (rss : List (List Row)) (budget : ℕ) : Type 0 where
  pub counts : List ℕ
  pub steps : length counts ≤ length rss
  pub are_counts : AreCounts g h rss 0 counts
  pub wide : budget < edges_of counts rss

-- The whole product has no more edges than these.
pub record HasRoom (g h : Layered) (rss : List (List Row)) (budget : ℕ) : Type 0 where
  pub counts : List ℕ
  pub steps : length counts ≡ length rss
  pub are_counts : AreCounts g h rss 0 counts
  pub room : edges_of counts rss ≤ budget

-- Some list of allowed rows leads both graphs to these labels.
pub record PairReaches (g h : Layered) (rss : List (List Row)) (sets : List (List Bool)) (a b : ℕ) : Type 0 where
  pub rows : List ℕ
  pub allows : AreAllowed sets rows
  pub first : label_of g (firsts rss rows) ≡ a
  pub second : label_of h (seconds rss rows) ≡ b

-- A label of the product that stands for the pair is reached by allowed rows.
pub record PairIsReached (p : Layered) (pairs : List Pair) (sets : List (List Bool)) (a b : ℕ) : Type 0 where
  pub label : ℕ
  pub stands : StandsThere pairs label a b
  pub reached : Reaches p sets label
