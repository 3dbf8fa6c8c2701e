use Rattle.std.proofs.Common.{◌≡◌, ◌<◌, true, rules, [], length, arith}
use Rattle.std.specs.Result.{is_ok}
use Rattle.std.proofs.lemmas.List.{take_more, map-append}
use Rattle.double_points.proofs.positions.no_words.Goals as goal

pub loop-i-preserved : goal.loop-i-preserved
loop-i-preserved c =
    let good : is_ok c.push.result ≡ true = search rules in
    let items = rw good at c.push.ensures.items in
    let e = c.switch_count.ensures in
    let lt : c.loop-i._i < length c.args.station.now.switch_paths = omega (arith, e.station.items.paths) in
    rw (items, c.loop-i.invariant, take_more c.args.station.now.switch_paths c.loop-i._i [] lt, map-append)
