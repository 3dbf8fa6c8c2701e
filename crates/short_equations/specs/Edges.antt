-- Edges between nodes and marks, each with the term under which it is there.
use Rattle.std.specs.Prelude.{◌≡◌, ◌≢◌, ◌↔◌, ◌⊎◌, ◌<◌, ◌≤◌, ℕ, List, length, slice_get, Option, Some, None}
use Rattle.ilk_base.specs.declared.words.NodeId.{NodeId}
use Rattle.station_graph.specs.Marking.{SomeBelow}
use Rattle.short_equations.specs.declared.edge.TheConstants.{FIRST_MARK}
use Rattle.short_equations.specs.declared.edge.Edge.{Edge}
use Rattle.short_equations.specs.declared.edge.Way.{Way}
use Rattle.interlock_terms.specs.declared.term.Term.{Term}
use Rattle.interlock_terms.specs.Terms.{Values, IsTrueAt, Solves}
use Rattle.short_equations.specs.Standing.{Eliminates, Replaces}

-- Marks have numbers past those of nodes.
abbrev pub IsMark : ℕ → Type 0
IsMark n = FIRST_MARK ≤ n

-- A way between p and q leads from a to b: from p to q, or back where q is a node.
abbrev pub IsBetween : ℕ → ℕ → ℕ → ℕ → Type 0
IsBetween p q a b = ((a ≡ p) × (b ≡ q)) ⊎ ((q < FIRST_MARK) × (a ≡ q) × (b ≡ p))

-- The edge leads from a to b: it is there, and they are its ends, in either order where both are nodes.
pub record LeadsAlong (v : Values) (e : Edge) (a b : ℕ) : Type 0 where
  pub there : IsTrueAt v e.term
  pub ends : IsBetween e.first.0 e.second.0 a b

-- One of the first k edges leads from a to b.
abbrev pub AlongBelow : Values → List Edge → ℕ → ℕ → ℕ → Type 0
AlongBelow v edges k a b = SomeBelow edges (λ e. LeadsAlong v e a b) k

-- One of the edges leads from a to b.
abbrev pub Along : Values → List Edge → ℕ → ℕ → Type 0
Along v edges = AlongBelow v edges (length edges)

-- An edge from a node to a node or mark with a greater number.
pub record IsEdge (e : Edge) : Type 0 where
  pub rises : e.first.0 < e.second.0
  pub from_node : e.first.0 < FIRST_MARK

-- All of them are.
abbrev pub AreEdges : List Edge → Type 0
AreEdges edges = (i : ℕ) (e : Edge) → slice_get edges i ≡ Some e → IsEdge e

-- The way is there, and leads to n.
abbrev pub IsWay : Values → ℕ → Way → Type 0
IsWay v n w = IsTrueAt v w.term × (w.to.0 ≡ n)

-- One of the first k ways leads to n.
abbrev pub WayBelow : Values → List Way → ℕ → ℕ → Type 0
WayBelow v ways k n = SomeBelow ways (IsWay v n) k

-- One of the ways does.
abbrev pub LeadsTo : Values → List Way → ℕ → Type 0
LeadsTo v ways = WayBelow v ways (length ways)

-- The ways are those from m along the edges.
abbrev pub AreWays : List Edge → ℕ → List Way → Type 0
AreWays edges m ways = (v : Values) (n : ℕ) → LeadsTo v ways n ↔ Along v edges m n

-- The new edges lead as the old ones and this one.
abbrev pub Adds : List Term → List Edge → Edge → List Edge → Type 0
Adds terms old e new =
    (v : Values) (a b : ℕ) → Solves v terms → Along v new a b ↔ (Along v old a b ⊎ LeadsAlong v e a b)

-- With the values of the terms, the new edges are the old ones with one node eliminated.
abbrev pub EliminatesNode : List Term → ℕ → List Edge → List Edge → Type 0
EliminatesNode terms m old new = (v : Values) → Solves v terms → Eliminates m (Along v old) (Along v new)

-- The other end of the edge, where m is one of its ends.
abbrev pub IsOther : Edge → ℕ → Option NodeId → Type 0
IsOther e m None = (e.first.0 ≢ m) × (e.second.0 ≢ m)
IsOther e m (Some to) = ((e.first.0 ≡ m) × (to ≡ e.second)) ⊎ ((e.second.0 ≡ m) × (to ≡ e.first))

-- The two ways are there, and the way over both leads from a to b: from the lesser end to the greater one, or back.
pub record PairLeads (v : Values) (from to : Way) (a b : ℕ) : Type 0 where
  pub first : IsTrueAt v from.term
  pub second : IsTrueAt v to.term
  pub rises : from.to.0 < to.to.0
  pub ends : IsBetween from.to.0 to.to.0 a b

-- The new edges lead as the old ones, and over one way and one of the first k.
abbrev pub AddsFrom : List Term → List Edge → Way → List Way → ℕ → List Edge → Type 0
AddsFrom terms old from ways k new =
    (v : Values) (a b : ℕ) → Solves v terms → Along v new a b ↔
    (Along v old a b ⊎ SomeBelow ways (λ to. PairLeads v from to a b) k)

-- The way leads to a node, and from there on over one of the ways.
abbrev pub LeadsOn : Values → List Way → ℕ → ℕ → Way → Type 0
LeadsOn v ways a b from = (from.to.0 < FIRST_MARK)
    × SomeBelow ways (λ to. PairLeads v from to a b) (length ways)

-- The new edges lead as the old ones, and over one of the first k ways and another one.
abbrev pub AddsThrough : List Term → List Edge → List Way → ℕ → List Edge → Type 0
AddsThrough terms old ways k new =
    (v : Values) (a b : ℕ) → Solves v terms → Along v new a b ↔
    (Along v old a b ⊎ SomeBelow ways (LeadsOn v ways a b) k)

-- An edge between these ends stands at the place.
pub record IsPlaceOf (edges : List Edge) (first second : NodeId) (place : ℕ) : Type 0 where
  pub edge : Edge
  pub listed : slice_get edges place ≡ Some edge
  pub from : edge.first ≡ first
  pub to : edge.second ≡ second

-- N is one of the first k of these nodes.
abbrev pub IsOneBelow : List NodeId → ℕ → ℕ → Type 0
IsOneBelow nodes k n = SomeBelow nodes (λ (m : NodeId). n ≡ m.0) k

-- With the values of the terms, the new edges stand in the place of the old ones, and the first k of the nodes are
-- gone.
abbrev pub StandsFor : List Term → List NodeId → ℕ → List Edge → List Edge → Type 0
StandsFor terms nodes k old new =
    (v : Values) → Solves v terms → Replaces (IsOneBelow nodes k) (Along v old) (Along v new)

-- The new edges lead as the old ones, and as the first k of more.
abbrev pub AddsAll : List Term → List Edge → List Edge → ℕ → List Edge → Type 0
AddsAll terms old more k new =
    (v : Values) (a b : ℕ) → Solves v terms → Along v new a b ↔ (Along v old a b ⊎ AlongBelow v more k a b)

-- The term, if there is one, is true.
abbrev pub IsTermTrue : Values → Option ℕ → Type 0
IsTermTrue v None = ⊥
IsTermTrue v (Some n) = IsTrueAt v n

-- The term is true exactly where one of the first k edges leads from a to b.
abbrev pub MeansWay : List Term → List Edge → ℕ → ℕ → ℕ → Option ℕ → Type 0
MeansWay terms edges k a b t = (v : Values) → Solves v terms → IsTermTrue v t ↔ AlongBelow v edges k a b

-- Term n is true exactly where one of two is, of which the first may be missing.
abbrev pub EitherTerm : List Term → Option ℕ → ℕ → ℕ → Type 0
EitherTerm terms found term n = (v : Values) → Solves v terms → IsTrueAt v n ↔ (IsTermTrue v found ⊎ IsTrueAt v term)
