use Rattle.std.proofs.Common.{◌≡◌, false, take}
use Rattle.equation_audit.specs.Equations.{is_released}
use Rattle.equation_audit.proofs.question.is_released.Given as goal

abbrev pub invariant-loop-alternative : goal.invariant-loop-alternative
invariant-loop-alternative l = is_released (take l.alternative-index l.alternatives) l.vector ≡ false
