use Rattle.commissioning_tests.proofs.AnswerLemmas.{AnswersUpto}
use Rattle.commissioning_tests.proofs.answers.answers_in.Given as goal

abbrev pub invariant-loop-k : goal.invariant-loop-k
invariant-loop-k l = AnswersUpto l.station l.operations l.vector l.answers.items l.k
