use Rattle.commissioning_tests.proofs.StandLemmas.{SettledUpto}
use Rattle.commissioning_tests.proofs.stands.settled.Given as goal

abbrev pub invariant-loop-s : goal.invariant-loop-s
invariant-loop-s l = SettledUpto l.stands l.list.items l.s
