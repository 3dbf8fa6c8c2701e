use Rattle.reservation_core.proofs.TrueWords.{obeys, answers, words, grants}
use Rattle.reservation_core.proofs.laws.granted_operations_obey.Goals as goal

pub returns-clause-obeys : goal.returns-clause-obeys
returns-clause-obeys g c w facts = obeys (g.J.Judge.meaning c.args.judge.now) w facts

pub returns-clause-answers : goal.returns-clause-answers
returns-clause-answers g c w facts = answers (g.J.Judge.meaning c.args.judge.now) w facts

pub returns-clause-words : goal.returns-clause-words
returns-clause-words g c w facts = words (g.J.Judge.meaning c.args.judge.now) w facts

pub returns-clause-grants : goal.returns-clause-grants
returns-clause-grants g c w facts = grants (g.J.Judge.meaning c.args.judge.now) w facts
