use Rattle.std.proofs.Common.{arith}
use Rattle.path_names.proofs.Places.{old_part}
use Rattle.path_names.proofs.numbers.old_part_name.Goals as goal

pub returns : goal.returns
returns c =
    old_part c.args.old.now c.args.new.now c.switch_count-old_count.ensures.station c.switch_count.ensures.station _
    c.args.part.0
    (omega (
      arith,
      c.switch_count.ensures.count,
      c.part_count.ensures.count,
      c.switch_count-old_count.ensures.count,
      c.from.ensures,
    ))
