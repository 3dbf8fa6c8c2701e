use Rattle.central_rules.proofs.WordRowLemmas.{summarises}
use Rattle.central_rules.proofs.plain.PlainJudgeJudge.summarise.Goals as goal

pub returns : goal.returns
returns c =
    let all = rw (← c.self.view_is) at c.requires.all in
    rw (← c.self.view_is) (summarises c.self.inside.station.now c.args.bay.0 c.args._to.0 c.args.readings.now
    c.row_of.result all c.row_of.ensures)
