use Rattle.node_session.proofs.requests.event_of.Goals as goal

pub returns-in-Some-clause-some : goal.returns-in-Some-clause-some
returns-in-Some-clause-some c = c.in-Some.ensures.some c.args.station.now c.args.bay.0
