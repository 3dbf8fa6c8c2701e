use Rattle.std.proofs.Common.{◌≡◌, length, drop}
use Rattle.equation_audit.specs.Positions.{placed}
use Rattle.equation_audit.proofs.question.place.Given as goal

abbrev pub invariant-loop-id : goal.invariant-loop-id
invariant-loop-id l =
    record {
      count : length l.vector ≡ length l.initial.vector;
      rest : placed l.vector (drop l.id-index l.own) l.left ≡ placed l.initial.vector l.own l.number;
    }
