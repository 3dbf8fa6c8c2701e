use Rattle.std.proofs.Common.{refl}
use Rattle.station_make.proofs.RecordLemmas.{lines_text-more}
use Rattle.station_make.proofs.records.push_delivers.Goals as goal

pub loop-i-preserved : goal.loop-i-preserved
loop-i-preserved c =
    lines_text-more c.args.first c.loop-i.i _ c.args.text.now c.loop-i.text c.push_deliver.new.text refl
    c.loop-i.invariant c.in_ok-push_deliver.ensures
