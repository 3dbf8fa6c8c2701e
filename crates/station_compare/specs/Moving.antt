-- A switch that two stations have, and the stock of its graphs.
use Rattle.std.specs.Prelude.{◌≤◌}
use Rattle.change_search.specs.declared.limits.TheConstants.{WALK_EDGES}
use Rattle.judge_pool.specs.declared.view.View.{View}
use Rattle.station_joints.specs.Joined.{HaveJointSteps}
use Rattle.station_compare.specs.declared.moved.MovedSwitch.{MovedSwitch}
use Rattle.station_compare.specs.declared.stocks.PairStock.{PairStock}
use Rattle.station_compare.specs.Walking.{IsPairStock}
use Rattle.station_compare.specs.Width.{HasWalk, KeepsWalk, PassesWalk}

-- It has a walk along these joint steps, and no walk may have more edges than its limit allows.
pub record IsMovedSwitch (m : MovedSwitch) : Type 0 where
  pub steps : HaveJointSteps m.old.now m.new.now m.steps.now
  pub walk : HasWalk m.old.now m.new.now m.steps.now.old_steps.items m.steps.now.new_steps.items m.place m.id.0 m.new_id.0
  pub limit : m.limit ≤ WALK_EDGES

-- The stock is that of its steps in this view.
abbrev pub IsStockFor : View → MovedSwitch → PairStock → Type 0
IsStockFor view m s = IsPairStock view m.old.now m.new.now m.steps.now.old_steps.items m.steps.now.new_steps.items s

-- Its walk keeps its limit.
abbrev pub KeepsMoved : MovedSwitch → Type 0
KeepsMoved m = KeepsWalk m.old.now m.new.now m.steps.now.old_steps.items m.steps.now.new_steps.items m.place m.id.0
    m.new_id.0 m.limit

-- Its walk passes it.
abbrev pub PassesMoved : MovedSwitch → Type 0
PassesMoved m = PassesWalk m.old.now m.new.now m.steps.now.old_steps.items m.steps.now.new_steps.items m.place m.id.0
    m.new_id.0 m.limit
