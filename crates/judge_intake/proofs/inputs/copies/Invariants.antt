use Rattle.judge_pool.specs.Pooling.{GrewTo}
use Rattle.judge_intake.proofs.InputsLemmas.{CopiesBelow}
use Rattle.judge_intake.proofs.inputs.copies.Given as goal

abbrev pub invariant-loop-place : goal.invariant-loop-place
invariant-loop-place l = record {
  grew : GrewTo l.fn.pool l.pool;
  copies : CopiesBelow l.pool l.values l.ids.items l.place;
}
