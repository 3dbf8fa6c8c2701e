use Rattle.station_compare.specs.Bays.{IsGoneBay}
use Rattle.station_compare.proofs.ListLemmas.{each_next}
use Rattle.station_compare.proofs.bays.gone_bays.Goals as goal

pub loop-p-preserved : goal.loop-p-preserved
loop-p-preserved c =
    rw c.in_ok-push.ensures.items (each_next (IsGoneBay c.args.old.now c.args.new.now) c.loop-p.p
    c.loop-p.gone.items c.is_gone_bay.result c.loop-p.invariant c.is_gone_bay.ensures)
