use Rattle.std.proofs.Common.{◌<◌, length, refl, sym, subst}
use Rattle.std.proofs.lemmas.Option.{slice_get_read}
use Rattle.station_graph.specs.Diagram.{Diagram, SwitchFits}
use Rattle.station_graph.proofs.station.Station.switch.Goals as goal

pub returns-clause-fits : goal.returns-clause-fits
returns-clause-fits c =
    let xs = c.self.inside.switches.items in
    let within : c.args.id.0 < length xs = subst (λ (d : Diagram). c.args.id.0 < length d.switches) (sym c.self.view_is)
    c.requires in
    subst (λ (d : Diagram). SwitchFits d c.index.result.now) c.self.view_is
    (c.self.invariant.0.items.switches_fit c.args.id.0 c.index.result.now (slice_get_read xs (length xs) c.args.id.0
    c.index.result.now refl within c.index.ensures))
