use Rattle.judge_pool.specs.Pooling.{GrewTo}
use Rattle.judge_pool.specs.Places.{node_listed, pool_on}
use Rattle.judge_pool.specs.Layering.{values_at}
use Rattle.judge_intake.proofs.InputsLemmas.{CopiesBelow}
use Rattle.judge_intake.proofs.places.names_in_places.Given as goal

abbrev pub invariant-loop-t : goal.invariant-loop-t
invariant-loop-t l = record {
  grew : GrewTo l.fn.pool l.pool;
  copies : CopiesBelow (pool_on (node_listed l.list) l.pool) (values_at l.fn.pool.values.items l.names) l.ids.items l.t;
}
