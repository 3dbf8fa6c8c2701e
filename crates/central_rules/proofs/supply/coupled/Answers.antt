use Rattle.std.proofs.Common.{length, ap, ◌∙◌}
use Rattle.station_graph.proofs.BreakerLemmas.{length-close_breakers}
use Rattle.central_rules.proofs.supply.coupled.Goals as goal

pub labels-requires : goal.labels-requires
labels-requires c =
    ap length c.in_ok-coupling.ensures ∙ length-close_breakers c.args.station.now.switches c.args.vector.now
    ∙ c.requires
