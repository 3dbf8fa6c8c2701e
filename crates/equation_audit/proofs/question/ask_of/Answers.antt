use Rattle.equation_audit.proofs.ReadingLemmas.{asked}
use Rattle.equation_audit.proofs.question.ask_of.Goals as goal

pub returns : goal.returns
returns g c = asked c.judge_all.result c.args.station.now _ c.args.own.now c.args.vector.now c.in_ok-words.words
    c.args.op c.requires.same c.in_ok-words.ensures.all c.in_ok-words.ensures.own c.requires.vector c.requires.own
    c.judge_all.ensures
