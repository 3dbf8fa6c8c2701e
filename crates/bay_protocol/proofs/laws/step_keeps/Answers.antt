use Rattle.std.proofs.Common.{refl}
use Rattle.bay_protocol.proofs.Keeping.{step_good}
use Rattle.bay_protocol.proofs.laws.step_keeps.Goals as goal

pub returns-clause-node : goal.returns-clause-node
returns-clause-node g c =
    λ d old event turn node heard fits step. (step_good (g.J.Judge.meaning c.args.judge.now) d old.bay old event turn
    (record { node = node; fits = heard; stays = refl }) fits step).node

pub returns-clause-fits : goal.returns-clause-fits
returns-clause-fits g c =
    λ d old event turn node heard fits step. (step_good (g.J.Judge.meaning c.args.judge.now) d old.bay old event turn
    (record { node = node; fits = heard; stays = refl }) fits step).fits

pub returns-clause-bay : goal.returns-clause-bay
returns-clause-bay g c =
    λ d old event turn node heard fits step. (step_good (g.J.Judge.meaning c.args.judge.now) d old.bay old event turn
    (record { node = node; fits = heard; stays = refl }) fits step).stays
