use Rattle.std.proofs.Common.{sym, subst}
use Rattle.station_graph.specs.Supply.{Live}
use Rattle.station_state.specs.State.{Earthed, Between}
use Rattle.station_state.proofs.StateLemmas.{between_of}
use Rattle.station_state.proofs.states.state_of.Goals as goal

pub returns-clause-live : goal.returns-clause-live
returns-clause-live c =
    let low = c.args.least.now in
    let high = c.args.greatest.now in
    let n = c.args.node.0 in
    subst (Between (Live low.station.now low.vector n) (Live high.station.now high.vector n))
    (sym c.certainty_of.ensures)
    (between_of (Live low.station.now low.vector n) (Live high.station.now high.vector n) c.is_live.result
    c.is_live-2.result c.is_live.ensures c.is_live-2.ensures)

pub returns-clause-earthed : goal.returns-clause-earthed
returns-clause-earthed c =
    let low = c.args.least.now in
    let high = c.args.greatest.now in
    let n = c.args.node.0 in
    subst (Between (Earthed low.station.now low.vector n) (Earthed high.station.now high.vector n))
    (sym c.certainty_of-2.ensures)
    (between_of (Earthed low.station.now low.vector n) (Earthed high.station.now high.vector n) c.is_earthed.result
    c.is_earthed-2.result c.is_earthed.ensures c.is_earthed-2.ensures)
