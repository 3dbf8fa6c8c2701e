use Rattle.central_rules.proofs.WordRowLemmas.{decides_op}
use Rattle.central_rules.proofs.plain.PlainJudgeJudge.judge.Goals as goal

pub returns : goal.returns
returns c =
    let own = rw (← c.self.view_is) at c.requires.own in
    rw (← c.self.view_is) (decides_op c.trial.result c.self.inside.station.now c.args.own.now c.args.heard.now
    c.in_ok-words.words c.args.op c.switch.result c.switch.ensures.value own c.in_ok-words.ensures.count
    c.in_ok-words.ensures.each c.trial.ensures)
