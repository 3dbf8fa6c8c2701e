use Rattle.station_compare.specs.Each.{AreEach}
use Rattle.station_compare.specs.Bays.{IsGoneBay}
use Rattle.station_compare.proofs.bays.gone_bays.Given as goal

abbrev pub invariant-loop-p : goal.invariant-loop-p
invariant-loop-p l = AreEach (IsGoneBay l.old l.new) l.p l.gone.items
