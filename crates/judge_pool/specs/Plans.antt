-- What the layers of a graph are made of.
use Rattle.std.specs.Prelude.{◌≡◌, ℕ, zero, suc, ◌-◌, ◌<◌, ◌≤◌, ◌⊎◌, ◌↔◌, Bool, List, [], ◌∷◌, ◌++◌, length, map}
use Rattle.std.specs.Prelude.{slice_get, Some, Contains, sum_by}
use Rattle.station_graph.specs.Diagram.{Diagram, part_count}
use Rattle.station_graph.specs.Connection.{Item, a_switch}
use Rattle.station_graph.specs.Alike.{IsVector}
use Rattle.contraction.specs.Answers.{Answers, Keeps}
use Rattle.contraction.specs.Stands.{Among, MeetsKept}
use Rattle.judge_pool.specs.Lettered.{Lettered}
use Rattle.decision_graphs.specs.Label.{Layer}
use Rattle.judge_pool.specs.declared.view.View.{View}
use Rattle.judge_pool.specs.Listing.{own_links, part_items, parts_before}
use Rattle.judge_pool.specs.Needing.{IsNeededOuter, InnerNeeds}
use Rattle.judge_pool.specs.declared.pool.Pool.{Pool}
use Rattle.decision_graphs.specs.declared.finished.FinishedLayer.{FinishedLayer}
use Rattle.decision_graphs.specs.Finished.{finished}
use Rattle.judge_pool.specs.Seen.{SeenFor, SameView}
use Rattle.judge_pool.specs.Counted.{Size, edges_in, Passes}
use Rattle.judge_pool.specs.Folding.{StandsIn}
use Rattle.judge_pool.specs.Layering.{values_at}
use Rattle.judge_pool.specs.Graphs.{other_of, OfOthers, PartChosen, SwitchChosen}

-- The four kinds of graphs: the outer graphs of a bay, and the inner graphs of a switch m of it, whose first layer's
-- choices are the labels of an outer graph with these names.
pub data Plan : Type 0 where
  outer_plan : Lettered → ℕ → Plan
  inner_plan : View → Lettered → ℕ → ℕ → ℕ → ℕ → List Answers → Plan

-- The station of a plan.
abbrev pub plan_diagram : Plan → Diagram
plan_diagram (outer_plan a b) = a.diagram
plan_diagram (inner_plan view a b m first others names) = a.diagram

-- The vector gives choice c in layer j.
abbrev pub ChosenBy : Plan → ℕ → ℕ → List Bool → Type 0
ChosenBy (outer_plan a b) j c v = PartChosen a b j c v
ChosenBy (inner_plan view a b m first others names) zero c v = StandsIn view (OfOthers a.diagram b) a.diagram v names c
ChosenBy (inner_plan view a b m first others names) (suc j) c v = SwitchChosen first m j c v

-- The items before the first layer, and those that layer j takes in.
abbrev pub items_before : Plan → List Item
items_before (outer_plan a b) = []
items_before (inner_plan view a b m first others names) = own_links a.diagram b

-- The items that layer j adds.
abbrev pub new_of : Plan → ℕ → List Item
new_of (outer_plan a b) j = part_items a.diagram (other_of 0 b j)
new_of (inner_plan view a b m first others names) zero = parts_before a.diagram b (part_count a.diagram - 1)
new_of (inner_plan view a b m first others names) (suc j) = a_switch (other_of first m j) ∷ []

-- The items before layer j.
abbrev pub items_of : Plan → ℕ → List Item
items_of plan zero = items_before plan
items_of plan (suc j) = items_of plan j ++ new_of plan j

-- The node is kept before layer j.
abbrev pub NeededBy : Plan → ℕ → ℕ → Type 0
NeededBy (outer_plan a b) j n = IsNeededOuter a.diagram b j n
NeededBy (inner_plan view a b m first others names) j n = InnerNeeds a.diagram b m first others j n

-- In v and w the items before layer j have this view in common, on the nodes that are kept before it.
abbrev pub SameBefore : View → Plan → ℕ → List Bool → List Bool → Type 0
SameBefore view plan j v w = SameView view (NeededBy plan j) (Among (items_of plan j)) (plan_diagram plan) v w

-- There is a vector in which one value answers for these items still, and another for those.
pub record CanBoth (view : View) (d : Diagram) (These Those : Item → Type 0) (x y : Answers) : Type 0 where
  pub vector : List Bool
  pub whole : IsVector d vector
  pub first : SeenFor view These d vector x
  pub second : SeenFor view Those d vector y

-- Before each of the first n layers of the plan there are so many distinct views, each with an edge for each letter.
pub record PlanHas (view : View) (plan : Plan) (letters : List (List ℕ)) (n : ℕ)
    (Many : (List Bool → List Bool → Type 0) → ℕ → Type 0) (edges : ℕ) : Type 0 where
  pub sizes : List Size
  pub len : length sizes ≡ n
  pub views : (j : ℕ) (s : Size) → slice_get sizes j ≡ Some s → Many (SameBefore view plan j) s.views
  pub choices : (j : ℕ) (s : Size) (ids : List ℕ) → slice_get sizes j ≡ Some s → slice_get letters j ≡ Some ids →
      s.choices ≡ length ids
  pub all : sum_by edges_in sizes ≡ edges

-- Already the first layers of the plan have more edges than the limit.
pub record PlanPasses (view : View) (plan : Plan) (letters : List (List ℕ)) (limit : ℕ) : Type 0 where
  pub layers : ℕ
  pub within : layers ≤ length letters
  pub first : Passes (PlanHas view plan letters layers) (plan_diagram plan) limit

-- The start, the letters of each layer and the nodes kept before and after each are numbers of the pool, and each node
-- that is kept after a layer was kept before it or by each of its letters.
pub record AreLinked (p : Pool) (start : ℕ) (letters : List (List ℕ)) (keeps : List ℕ) : Type 0 where
  pub start_in : start < length p.values.items
  pub count : length keeps ≡ suc (length letters)
  pub keeps_in : (j k : ℕ) → slice_get keeps j ≡ Some k → k < length p.keeps.items
  pub letters_in : (j c i : ℕ) (ids : List ℕ) → slice_get letters j ≡ Some ids → slice_get ids c ≡ Some i →
      i < length p.values.items
  pub some : (j : ℕ) (ids : List ℕ) → slice_get letters j ≡ Some ids → 0 < length ids
  pub start_kept : (x : Answers) (k : ℕ) (nodes : List ℕ) → slice_get p.values.items start ≡ Some x →
      slice_get keeps 0 ≡ Some k → slice_get p.keeps.items k ≡ Some nodes → (n : ℕ) → Keeps x.kept n ↔ Contains nodes n
  pub chain : (j k h c i : ℕ) (ids nodes after : List ℕ) (y : Answers) → slice_get letters j ≡ Some ids →
      slice_get keeps j ≡ Some k → slice_get keeps (suc j) ≡ Some h → slice_get p.keeps.items k ≡ Some nodes →
      slice_get p.keeps.items h ≡ Some after → slice_get ids c ≡ Some i → slice_get p.values.items i ≡ Some y →
      (n : ℕ) → Contains after n → Contains nodes n ⊎ Keeps y.kept n

-- They are those of the plan.
pub record PlanFits (plan : Plan) (p : Pool) (start : ℕ) (letters : List (List ℕ)) (keeps : List ℕ) : Type 0 where
  pub start_stands : (x : Answers) (v : List Bool) → slice_get p.values.items start ≡ Some x →
      IsVector (plan_diagram plan) v → SeenFor p.view (Among (items_before plan)) (plan_diagram plan) v x
  pub needed : (j k : ℕ) (nodes : List ℕ) → slice_get keeps j ≡ Some k → slice_get p.keeps.items k ≡ Some nodes →
      (n : ℕ) → Contains nodes n ↔ NeededBy plan j n
  pub letter : (j c : ℕ) (ids : List ℕ) (v : List Bool) → slice_get letters j ≡ Some ids →
      IsVector (plan_diagram plan) v → ChosenBy plan j c v →
      StandsIn p.view (Among (new_of plan j)) (plan_diagram plan) v (values_at p.values.items ids) c
  pub meets : (j c : ℕ) (ids : List ℕ) (x y : Answers) → slice_get letters j ≡ Some ids →
      ((n : ℕ) → Keeps x.kept n ↔ NeededBy plan j n) → slice_get (values_at p.values.items ids) c ≡ Some y →
      MeetsKept (Among (items_of plan j)) (Among (new_of plan j)) (plan_diagram plan) x.kept y.kept
  pub given : (j c : ℕ) (ids : List ℕ) (x y : Answers) (v : List Bool) → slice_get letters j ≡ Some ids →
      slice_get (values_at p.values.items ids) c ≡ Some y → IsVector (plan_diagram plan) v →
      SeenFor p.view (Among (items_of plan j)) (plan_diagram plan) v x →
      CanBoth p.view (plan_diagram plan) (Among (items_of plan j)) (Among (new_of plan j)) x y
  pub cover : (j : ℕ) (ids : List ℕ) (v : List Bool) → slice_get letters j ≡ Some ids → IsVector (plan_diagram plan) v →
      (c : ℕ) × StandsIn p.view (Among (new_of plan j)) (plan_diagram plan) v (values_at p.values.items ids) c

-- The layers of a graph that are finished.
abbrev pub layers_of : List FinishedLayer → List Layer
layers_of drafts = map finished drafts
