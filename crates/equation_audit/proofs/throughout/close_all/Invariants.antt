use Rattle.std.proofs.Common.{◌≡◌, length, drop}
use Rattle.equation_audit.specs.Positions.{all_closed}
use Rattle.equation_audit.proofs.throughout.close_all.Given as goal

abbrev pub invariant-loop-id : goal.invariant-loop-id
invariant-loop-id l =
    record {
      count : length l.vector ≡ length l.initial.vector;
      rest : all_closed l.vector (drop l.id-index l.ids) ≡ all_closed l.initial.vector l.ids;
    }
