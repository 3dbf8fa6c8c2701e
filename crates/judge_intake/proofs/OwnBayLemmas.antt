-- A switch of a bay, and what the bay needs, by how many others there are.
use Rattle.std.proofs.Common.{ℕ, suc, ◌+◌, ◌<◌, subst}
use Rattle.std.specs.Prelude.{Contains, ◌↔◌}
use Rattle.station_graph.specs.Diagram.{Diagram, AreSwitchesOf}
use Rattle.judge_intake.specs.declared.own_bays.OwnBay.{OwnBay}
use Rattle.judge_pool.specs.Graphs.{IsOwn}
use Rattle.judge_pool.specs.Needing.{BayNeeds}
use Rattle.judge_intake.specs.OwnBays.{IsOwnBay, IsOwnSwitch}

module _ (d : Diagram) (o : OwnBay) (h : IsOwnBay d o) (m others : ℕ) (s : IsOwnSwitch o m others) where
  pub is_own : IsOwn d o.bay.0 m o.first others
  is_own = record {
    those = subst (AreSwitchesOf d o.bay.0 o.first) s.one_more h.switches;
    from = s.from;
    below = subst (λ k. m < o.first + k) s.one_more s.below;
  }

  pub needs_so : (n : ℕ) → Contains o.nodes n ↔ BayNeeds d o.bay.0 o.first (suc others) n
  needs_so n = subst (λ k. Contains o.nodes n ↔ BayNeeds d o.bay.0 o.first k n) s.one_more (h.needed n)
