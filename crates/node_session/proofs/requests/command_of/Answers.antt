use Rattle.node_session.proofs.Naming.{no_command}
use Rattle.node_session.proofs.requests.command_of.Goals as goal

pub returns-clause-none : goal.returns-clause-none
returns-clause-none c = λ op.
    no_command c.args.station.now c.args.bay.0 c.args.line.now c.in_default.ensures.none
    c.in_default-own_after.ensures.none op.direction op.switch
