use Rattle.std.proofs.Common.{◌∙◌, sym, arith}
use Rattle.std.proofs.lemmas.List.{length-map}
use Rattle.station_state.specs.State.{closed_where, extreme}
use Rattle.station_state.proofs.ExtremeLemmas.{same_entries}
use Rattle.station_state.proofs.extremes.extreme.Goals as goal

pub returns : goal.returns
returns c =
    let u = c.args.uncertain in
    let words = c.args.readings.now in
    same_entries c.loop-i.vector (extreme u words) (c.loop-i.invariant.0 ∙ sym (length-map words (closed_where u)))
    (λ k h. c.loop-i.invariant.1 k (omega (
      arith,
      h,
      c.loop-i.invariant.0,
      c.loop-i-test.false,
      c.requires,
      c.switch_count-i-end.ensures.count,
    )))
