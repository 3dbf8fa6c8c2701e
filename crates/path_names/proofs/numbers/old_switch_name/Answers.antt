use Rattle.std.proofs.Common.{arith}
use Rattle.path_names.proofs.Places.{old_switch}
use Rattle.path_names.proofs.numbers.old_switch_name.Goals as goal

pub returns : goal.returns
returns c =
    old_switch c.args.old.now c.args.new.now c.is_station.ensures c.switch_count.ensures.station _ c.args.id.0
    (omega (arith, c.switch_count.ensures.count, c.part_count.ensures.count)) c.requires
