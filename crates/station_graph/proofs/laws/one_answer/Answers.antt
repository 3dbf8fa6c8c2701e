use Rattle.station_graph.proofs.AnswerLemmas.{same_answer}
use Rattle.station_graph.proofs.SomeAnswer.{some_answer}
use Rattle.station_graph.proofs.laws.one_answer.Goals as goal

pub returns-clause-one : goal.returns-clause-one
returns-clause-one c = same_answer

pub returns-clause-some : goal.returns-clause-some
returns-clause-some c = some_answer
