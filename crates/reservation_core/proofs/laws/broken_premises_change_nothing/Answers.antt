use Rattle.std.proofs.Common.{refl}
use Rattle.reservation_core.specs.declared.values.WorldOutcome.TheVariants.{Premise}
use Rattle.reservation_core.proofs.Ways.{way, premise_same}
use Rattle.reservation_core.proofs.laws.broken_premises_change_nothing.Goals as goal

pub returns : goal.returns
returns g c old new event which facts range happens =
    premise_same (g.J.Judge.meaning c.args.judge.now) old new event (Premise which) which refl (way
    (g.J.Judge.meaning c.args.judge.now) c.diagram_is_station.ensures old new (Premise which) facts event range happens)
