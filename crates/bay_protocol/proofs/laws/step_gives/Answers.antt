use Rattle.std.proofs.Common.{refl}
use Rattle.bay_protocol.proofs.Sending.{step_sends}
use Rattle.bay_protocol.proofs.Showing.{step_shown}
use Rattle.bay_protocol.proofs.laws.step_gives.Goals as goal

pub returns-clause-lawful : goal.returns-clause-lawful
returns-clause-lawful g c =
    λ old event turn node fits step. (step_sends (g.J.Judge.meaning c.args.judge.now).diagram
    c.diagram_is_station.ensures (g.J.Judge.meaning c.args.judge.now) old event turn node fits step).lawful

pub returns-clause-few : goal.returns-clause-few
returns-clause-few g c =
    λ old event turn node fits step. (step_sends (g.J.Judge.meaning c.args.judge.now).diagram
    c.diagram_is_station.ensures (g.J.Judge.meaning c.args.judge.now) old event turn node fits step).few

pub returns-clause-outcome : goal.returns-clause-outcome
returns-clause-outcome g c =
    λ old event turn node fits step. step_shown (g.J.Judge.meaning c.args.judge.now).diagram
    (g.J.Judge.meaning c.args.judge.now) refl old event turn node fits step
