use Rattle.std.proofs.Common.{length}
use Rattle.std.specs.List.{range_with_len}
use Rattle.ssd_read.proofs.Tapped.{infeeds_tapped}
use Rattle.ssd_read.proofs.build.build.Goals as goal

pub finish-requires : goal.finish-requires
finish-requires c = infeeds_tapped c.args.drawing.now (range_with_len 0 (length c.args.drawing.now))
    c.add_all.new.builder c.in-Ok.ensures
