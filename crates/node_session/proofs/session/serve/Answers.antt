use Rattle.node_session.proofs.Whole.{goes_through}
use Rattle.node_session.proofs.session.serve.Goals as goal

pub returns-clause-complete : goal.returns-clause-complete
returns-clause-complete g c = λ content told input reads writes.
    goes_through (g.J.Judge.meaning c.args.judge.now) c.args.station.now c.args.bay.0 _ _ c.run.result content
    c.run.ensures told input reads writes
