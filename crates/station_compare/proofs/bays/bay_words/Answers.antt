use Rattle.station_compare.specs.Bays.{IsBayWord}
use Rattle.station_compare.proofs.ListLemmas.{each_next}
use Rattle.station_compare.proofs.bays.bay_words.Goals as goal

pub loop-p-preserved : goal.loop-p-preserved
loop-p-preserved c =
    rw c.in_ok-push.ensures.items (each_next (IsBayWord c.args.old.now c.args.new.now) c.loop-p.p
    c.loop-p.words.items c.bay_word.result c.loop-p.invariant c.bay_word.ensures)
