use Rattle.std.proofs.Common.{◌+◌, Some, None, arith}
use Rattle.station_compare.specs.Bays.{Between, InPart}
use Rattle.station_compare.proofs.BayLemmas.{worst_same, part_between}
use Rattle.station_compare.proofs.bays.bay_word.Goals as goal

pub returns-in-Some : goal.returns-in-Some
returns-in-Some c =
    let n = c.args.new.now in
    let p = c.args.part.0 in
    let first = c.switches_of-count.result.0.0 in
    let count = c.switches_of-count.result.1 in
    let those = c.switches_of-count.ensures in
    worst_same c.args.old.now n (Between first (first + count)) (InPart n p)
    (part_between n p first count those.value those.station) (Some c.in-Some.word) c.in-Some.ensures

pub returns-in-None : goal.returns-in-None
returns-in-None c =
    let n = c.args.new.now in
    let p = c.args.part.0 in
    let first = c.switches_of-count.result.0.0 in
    let count = c.switches_of-count.result.1 in
    let those = c.switches_of-count.ensures in (
      omega (arith, those.value.counted, c.if-count-eq0.false),
      worst_same c.args.old.now n (Between first (first + count)) (InPart n p)
          (part_between n p first count those.value those.station) None c.in-None.ensures,
    )
