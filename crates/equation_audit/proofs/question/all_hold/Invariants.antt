use Rattle.std.proofs.Common.{◌≡◌, true, take}
use Rattle.std.specs.List.{list_all}
use Rattle.equation_audit.specs.Equations.{holds}
use Rattle.equation_audit.proofs.question.all_hold.Given as goal

abbrev pub invariant-loop-condition : goal.invariant-loop-condition
invariant-loop-condition l = list_all (holds l.vector) (take l.condition-index l.conditions) ≡ true
