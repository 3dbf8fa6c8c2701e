use Rattle.std.proofs.Common.{refl}
use Rattle.bay_protocol.specs.Output.{turn}
use Rattle.bay_protocol.proofs.Keeping.{step_good}
use Rattle.bay_protocol.proofs.Sending.{step_sends}
use Rattle.bay_protocol.proofs.Showing.{step_shown}
use Rattle.bay_node.proofs.node.Node.step.Goals as goal

pub returns-clause-lawful : goal.returns-clause-lawful
returns-clause-lawful g c =
    (step_sends c.args.station.now (rw c.requires.same at c.diagram_is_station.ensures)
    (g.J.Judge.meaning c.args.judge.now) c.args.self.now c.args.event (turn c.act.new.self c.in_ok-output.output)
    c.requires.node c.requires.event c.in_ok-output.ensures.step).lawful

pub returns-clause-outcome : goal.returns-clause-outcome
returns-clause-outcome g c =
    step_shown c.args.station.now (g.J.Judge.meaning c.args.judge.now) c.requires.same c.args.self.now c.args.event
    (turn c.act.new.self c.in_ok-output.output) c.requires.node c.requires.event c.in_ok-output.ensures.step

pub returns-clause-node : goal.returns-clause-node
returns-clause-node g c =
    (step_good (g.J.Judge.meaning c.args.judge.now) c.args.station.now c.args.self.now.bay c.args.self.now c.args.event
    (turn c.act.new.self c.in_ok-output.output)
    (record { node = c.requires.node; fits = c.requires.fits; stays = refl }) c.requires.event
    c.in_ok-output.ensures.step).node

pub returns-clause-bay : goal.returns-clause-bay
returns-clause-bay g c =
    (step_good (g.J.Judge.meaning c.args.judge.now) c.args.station.now c.args.self.now.bay c.args.self.now c.args.event
    (turn c.act.new.self c.in_ok-output.output)
    (record { node = c.requires.node; fits = c.requires.fits; stays = refl }) c.requires.event
    c.in_ok-output.ensures.step).stays

pub returns-clause-fits : goal.returns-clause-fits
returns-clause-fits g c =
    (step_good (g.J.Judge.meaning c.args.judge.now) c.args.station.now c.args.self.now.bay c.args.self.now c.args.event
    (turn c.act.new.self c.in_ok-output.output)
    (record { node = c.requires.node; fits = c.requires.fits; stays = refl }) c.requires.event
    c.in_ok-output.ensures.step).fits
