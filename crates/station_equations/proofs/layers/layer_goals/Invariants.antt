use Rattle.std.proofs.Common.{◌≡◌, ◌≤◌, ◌+◌, ℕ, List, length}
use Rattle.decision_graphs.specs.Label.{layer_at}
use Rattle.station_equations.specs.EquationLines.{PartLines}
use Rattle.station_equations.specs.Subjects.{HasChoices}
use Rattle.station_equations.specs.Apart.{AreFrom, AllFrom}
use Rattle.station_equations.specs.Growing.{AreGoals, AllGrew, LayerLeads}
use Rattle.judge_pool.specs.Pooling.{Extends}
use Rattle.station_equations.proofs.layers.layer_goals.Given as goal

abbrev pub invariant-loop-node : goal.invariant-loop-node
invariant-loop-node l =
    record {
      extends : Extends l.fn.nodes.items l.nodes.items;
      count : length l.goals.items ≡ l.node;
      leads : LayerLeads l.nodes.items l.subject (layer_at l.graph.layers l.layer) l.next l.goals.items;
      grew : (switches : ℕ) (parts : List PartLines) →
          HasChoices switches parts l.subject (layer_at l.graph.layers l.layer).choices →
          AreGoals (length l.fn.nodes.items) l.next → AllGrew switches parts l.fn.nodes.items →
          AllGrew switches parts l.nodes.items × AreGoals (length l.nodes.items) l.goals.items;
      apart : (lo : ℕ) → lo ≤ length l.fn.nodes.items → AreFrom lo l.next → AllFrom lo l.fn.nodes.items →
          AllFrom lo l.nodes.items × AreFrom lo l.goals.items;
      few : length l.nodes.items ≤ length l.fn.nodes.items + l.node;
    }
