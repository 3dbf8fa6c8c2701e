use Rattle.judge_pool.specs.Pooling.{GrewTo}
use Rattle.judge_intake.specs.Inputs.{AreKeeps}
use Rattle.step_graphs.specs.Needing.{IsNeeded}
use Rattle.step_graphs.proofs.spans.keeps_over.Given as goal

abbrev pub invariant-loop-j : goal.invariant-loop-j
invariant-loop-j l = record {
  grew : GrewTo l.fn.pool l.pool;
  keeps : AreKeeps (IsNeeded l.station l.steps l.moved) l.pool l.keeps.items l.j;
}
