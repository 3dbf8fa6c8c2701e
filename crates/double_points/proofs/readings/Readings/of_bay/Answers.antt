use Rattle.std.proofs.Common.{◌+◌, ◌-◌, arith}
use Rattle.double_points.proofs.BayLemmas.{cut_out}
use Rattle.double_points.proofs.readings.Readings.of_bay.Goals as goal

pub returns : goal.returns
returns c =
    let first = c.switches_of-count.result.0.0 in
    let count = c.switches_of-count.result.1 in
    cut_out c.args.station.now c.args.bay.0 first count ((first + c.from.result) - first) c.args.self.now c.new.result
    c.switches_of-count.ensures.value c.requires (omega (arith, c.from.ensures))
    (rw c.self.view_is at (rw c.from-first.ensures at (rw c.deref.ensures.value at c.new.ensures)))
