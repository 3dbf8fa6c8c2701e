use Rattle.node_session.proofs.Naming.{no_sense}
use Rattle.node_session.proofs.requests.sense_of.Goals as goal

pub returns-clause-none : goal.returns-clause-none
returns-clause-none c =
    no_sense c.args.station.now c.args.bay.0 c.args.line.now c.in_default.ensures.none
    c.in_default-own_after.ensures.none c.in_default-own_after-2.ensures.none c.in_default-own_after-3.ensures.none
    c.in_default-own_after-4.ensures.none
