use Rattle.std.proofs.Common.{rules}
use Rattle.station_graph.proofs.PartialEdges.{two_ended_from_second}
use Rattle.central_rules.proofs.RuleLemmas.{closing_from_earthable}
use Rattle.central_rules.proofs.rules.breaks_closing.Goals as goal

pub returns : goal.returns
returns c =
    let d = c.args.station.now in
    let moved = c.switch-moved.result in
    closing_from_earthable d c.args.vector.now c.in_ok-closed.closed c.args.op moved c.is_earthable.result
    c.switch-moved.ensures.value (search rules)
    (two_ended_from_second d moved c.switch-moved.ensures.fits (search rules)) c.in_ok-closed.ensures
    (c.is_energisable.ensures.0 (search rules)) c.is_earthable.ensures
