use Rattle.std.proofs.Common.{map}
use Rattle.judge_pool.specs.Lettered.{lettered}
use Rattle.judge_pool.specs.Pooling.{GrewTo}
use Rattle.judge_intake.specs.Inputs.{AreLetters}
use Rattle.judge_intake.proofs.inputs.letter_rows.Given as goal

abbrev pub invariant-loop-part : goal.invariant-loop-part
invariant-loop-part l = record {
  grew : GrewTo l.fn.pool l.pool;
  rows : AreLetters (lettered l.station l.parts) l.pool (map (λ r. r.items) l.rows.items) l.part;
}
