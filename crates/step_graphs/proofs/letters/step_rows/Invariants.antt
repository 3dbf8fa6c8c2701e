use Rattle.std.proofs.Common.{map}
use Rattle.judge_pool.specs.Pooling.{GrewTo}
use Rattle.step_graphs.specs.Letters.{AreStepRows}
use Rattle.step_graphs.proofs.letters.step_rows.Given as goal

abbrev pub invariant-loop-k : goal.invariant-loop-k
invariant-loop-k l = record {
  grew : GrewTo l.fn.pool l.pool;
  rows : AreStepRows l.pool l.station l.steps (map (λ r. r.items) l.rows.items) l.k;
}
