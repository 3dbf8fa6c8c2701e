use Rattle.station_compare.specs.Comparing.{IsGone}
use Rattle.station_compare.proofs.ListLemmas.{each_next}
use Rattle.station_compare.proofs.compare.gone.Goals as goal

pub loop-i-preserved : goal.loop-i-preserved
loop-i-preserved c =
    rw c.in_ok-push.ensures.items (each_next (IsGone c.args.old.now c.args.new.now) c.loop-i.i c.loop-i.list.items
    c.is_gone.result c.loop-i.invariant c.is_gone.ensures)
