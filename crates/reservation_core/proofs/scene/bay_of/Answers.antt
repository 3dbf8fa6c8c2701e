use Rattle.std.proofs.Common.{refl}
use Rattle.reservation_core.proofs.Steps.{bay_is}
use Rattle.reservation_core.proofs.scene.bay_of.Goals as goal

pub returns-clause-is : goal.returns-clause-is
returns-clause-is c = rw c.switch.ensures.value refl

pub returns-clause-bay : goal.returns-clause-bay
returns-clause-bay c =
    bay_is c.args.station.now c.args.switch.0 c.switch.result c.switch.ensures.station c.switch.ensures.value

pub returns-clause-own : goal.returns-clause-own
returns-clause-own c = (c.switch.result, c.switch.ensures.value, refl)
