use Rattle.std.proofs.Common.{map}
use Rattle.judge_intake.specs.Inputs.{AreOtherRows}
use Rattle.judge_intake.proofs.inputs.other_rows.Given as goal

abbrev pub invariant-loop-i : goal.invariant-loop-i
invariant-loop-i l = AreOtherRows l.this (map (λ r. r.items) l.fn.rows) (map (λ r. r.items) l.list.items) l.i
