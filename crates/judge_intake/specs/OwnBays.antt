-- A bay by its switches and by the nodes that it needs.
use Rattle.std.specs.Prelude.{◌≡◌, ℕ, suc, ◌+◌, ◌<◌, ◌≤◌, ◌↔◌, Contains}
use Rattle.station_graph.specs.Diagram.{Diagram, part_count, AreSwitchesOf}
use Rattle.contraction.specs.Answers.{AreNodes}
use Rattle.judge_intake.specs.declared.own_bays.OwnBay.{OwnBay}
use Rattle.judge_pool.specs.Needing.{BayNeeds}

-- It has these switches, and needs exactly these nodes.
pub record IsOwnBay (d : Diagram) (own : OwnBay) : Type 0 where
  pub bay : own.bay.0 < part_count d
  pub switches : AreSwitchesOf d own.bay.0 own.first own.count
  pub nodes : AreNodes own.nodes
  pub needed : (n : ℕ) → Contains own.nodes n ↔ BayNeeds d own.bay.0 own.first own.count n

-- The switch is one of the bay's, which has so many others.
pub record IsOwnSwitch (own : OwnBay) (moved others : ℕ) : Type 0 where
  pub one_more : own.count ≡ suc others
  pub from : own.first ≤ moved
  pub below : moved < own.first + own.count
