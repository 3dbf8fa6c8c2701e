use Rattle.station_graph.specs.Diagram.{part_count}
use Rattle.station_work.proofs.Blind.{blind_result}
use Rattle.station_work.proofs.tally.verdict.Goals as goal

pub returns-in-Blind : goal.returns-in-Blind
returns-in-Blind g c =
    rw c.in-Blind.is
    (blind_result (g.J.Judge.meaning c.args.judge.now) c.args.readings.now (part_count c.args.station.now)
    c.args.heard.now c.requires.heard c.args.op c.args.station.now c.requires.same c.judge.result c.judge.ensures)
