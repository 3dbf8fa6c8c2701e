use Rattle.std.proofs.Common.{arith}
use Rattle.path_names.proofs.Places.{new_part}
use Rattle.path_names.proofs.numbers.new_part_name.Goals as goal

pub returns : goal.returns
returns c =
    new_part c.args.old.now c.args.new.now c.switch_count.ensures.station _ c.args.part.0
    (omega (arith, c.switch_count.ensures.count, c.from.ensures)) c.requires
