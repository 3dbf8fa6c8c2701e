use Rattle.trip_core.proofs.Obeying.{answers_trip, words_trip, grants_trip}
use Rattle.trip_core.proofs.laws.trip_facts_speak_of_the_truth.Goals as goal

pub returns-clause-answers : goal.returns-clause-answers
returns-clause-answers g c s facts = answers_trip (g.J.Judge.meaning c.args.judge.now) s facts

pub returns-clause-words : goal.returns-clause-words
returns-clause-words g c s facts = words_trip (g.J.Judge.meaning c.args.judge.now) s facts

pub returns-clause-grants : goal.returns-clause-grants
returns-clause-grants g c s facts = grants_trip (g.J.Judge.meaning c.args.judge.now) s facts
    (g.met.J.Judge.lawful c.args.judge.now)
