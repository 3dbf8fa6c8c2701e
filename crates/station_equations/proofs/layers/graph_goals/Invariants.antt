use Rattle.std.proofs.Common.{◌≡◌, ◌≤◌, ◌+◌, ℕ, List, length}
use Rattle.decision_graphs.specs.Label.{size_at, first_at}
use Rattle.decision_graphs.specs.Reaching.{node_total}
use Rattle.station_equations.specs.EquationLines.{PartLines}
use Rattle.station_equations.specs.Apart.{AreFrom, AllFrom}
use Rattle.station_equations.specs.Growing.{AreGoals, AllGrew, LayersHaveChoices, AllLead}
use Rattle.judge_pool.specs.Pooling.{Extends}
use Rattle.station_equations.proofs.layers.graph_goals.Given as goal

abbrev pub invariant-loop-layer : goal.invariant-loop-layer
invariant-loop-layer l =
    record {
      low : l.from ≤ l.layer;
      high : l.layer ≤ length l.graph.layers;
      extends : Extends l.fn.nodes.items l.nodes.items;
      count : length l.goals.items ≡ size_at l.graph.labels l.graph.layers l.layer;
      leads : AllLead l.nodes.items l.subjects l.graph l.layer l.goals.items l.fn.ends.items;
      grew : (switches : ℕ) (parts : List PartLines) → LayersHaveChoices switches parts l.subjects l.graph l.from →
          AreGoals (length l.fn.nodes.items) l.fn.ends.items → AllGrew switches parts l.fn.nodes.items →
          AllGrew switches parts l.nodes.items × AreGoals (length l.nodes.items) l.goals.items;
      apart : (lo : ℕ) → lo ≤ length l.fn.nodes.items → AreFrom lo l.fn.ends.items → AllFrom lo l.fn.nodes.items →
          AllFrom lo l.nodes.items × AreFrom lo l.goals.items;
      few : length l.nodes.items + first_at l.graph.layers l.layer ≤ length l.fn.nodes.items + node_total l.graph;
    }

abbrev pub decreases-loop-layer : goal.decreases-loop-layer
decreases-loop-layer l = l.layer
