use Rattle.judge_pool.specs.Pooling.{GrewTo}
use Rattle.judge_pool.specs.Needing.{IsNeededOuter}
use Rattle.judge_intake.specs.Inputs.{AreKeeps}
use Rattle.judge_intake.proofs.inputs.outer_keeps.Given as goal

abbrev pub invariant-loop-place : goal.invariant-loop-place
invariant-loop-place l = record {
  grew : GrewTo l.fn.pool l.pool;
  keeps : AreKeeps (IsNeededOuter l.station l.bay.0) l.pool l.keeps.items l.place;
}
