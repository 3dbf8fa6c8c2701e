use Rattle.commissioning_tests.proofs.MoveLemmas.{MovesUpto}
use Rattle.commissioning_tests.proofs.moves.moves_of.Given as goal

abbrev pub invariant-loop-s : goal.invariant-loop-s
invariant-loop-s l = MovesUpto l.station l.operations l.asked l.found.positions.items l.vector l.answers l.moves.items l.s
