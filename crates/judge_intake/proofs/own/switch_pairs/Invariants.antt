use Rattle.std.proofs.Common.{map}
use Rattle.judge_pool.specs.Pooling.{GrewTo}
use Rattle.judge_pool.specs.Places.{node_listed, pool_on}
use Rattle.judge_intake.specs.Inputs.{ArePairs}
use Rattle.judge_intake.proofs.own.switch_pairs.Given as goal

abbrev pub invariant-loop-i : goal.invariant-loop-i
invariant-loop-i l = record {
  grew : GrewTo l.fn.pool l.pool;
  pairs : ArePairs (pool_on (node_listed l.list) l.pool) l.station l.first (map (λ r. r.items) l.pairs.items) l.i;
}
