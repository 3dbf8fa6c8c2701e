-- What a chain shows.
use Rattle.std.specs.Prelude.{◌≡◌, ◌≤◌, ℕ, Bool, false, List, Some, None}
use Rattle.ilk_base.specs.declared.words.Kind.{Kind}
use Rattle.ilk_base.specs.declared.words.SwitchId.{SwitchId}
use Rattle.station_graph.specs.Diagram.{Diagram, HasTap}
use Rattle.station_graph.specs.Connection.{Touching}
use Rattle.station_graph.specs.Supply.{ClosedAt}
use Rattle.denial_explain.specs.declared.chain.Chain.{Chain}
use Rattle.denial_explain.specs.Ways.{IsWay}

-- The chain is a shortest way from the node a to a node where a switch of this kind stands that is
-- closed in v, and it names the first such switch at its last node. Each two neighbours in it are the ends of a
-- breaker or disconnector that is closed in joining, or of a link.
pub record LeadsToClosed (d : Diagram) (joining v : List Bool) (kind : Kind) (a : ℕ) (c : Chain) : Type 0 where
  pub last : ℕ
  pub way : IsWay (Touching false d joining) (ClosedAt d v kind) a last c.nodes
  pub by : SwitchId
  pub named : c.by ≡ Some by
  pub at : ClosedAt d v kind last
  pub is_by : at.number ≡ by.0
  pub first : (other : ClosedAt d v kind last) → by.0 ≤ other.number

-- The chain is a shortest way from the node a to a node with a tap, and names no switch.
pub record LeadsToTap (d : Diagram) (joining : List Bool) (a : ℕ) (c : Chain) : Type 0 where
  pub last : ℕ
  pub way : IsWay (Touching false d joining) (HasTap d) a last c.nodes
  pub nothing : c.by ≡ None
