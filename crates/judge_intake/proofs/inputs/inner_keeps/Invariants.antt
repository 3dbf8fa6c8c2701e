use Rattle.std.proofs.Common.{◌+◌}
use Rattle.judge_pool.specs.Pooling.{GrewTo}
use Rattle.judge_pool.specs.Places.{node_listed, pool_on}
use Rattle.judge_pool.specs.Needing.{InnerNeeds}
use Rattle.judge_intake.specs.Inputs.{AreKeeps}
use Rattle.judge_intake.proofs.inputs.inner_keeps.Given as goal

abbrev pub invariant-loop-from : goal.invariant-loop-from
invariant-loop-from l = record {
  grew : GrewTo l.fn.pool l.pool;
  keeps : AreKeeps (InnerNeeds l.station l.own.bay.0 l.moved l.own.first l.others) (pool_on (node_listed l.own.nodes) l.pool)
      l.keeps.items (l.from + 1);
}
