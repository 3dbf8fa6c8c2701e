use Rattle.station_compare.specs.Each.{AreEach}
use Rattle.station_compare.specs.Comparing.{IsGone}
use Rattle.station_compare.proofs.compare.gone.Given as goal

abbrev pub invariant-loop-i : goal.invariant-loop-i
invariant-loop-i l = AreEach (IsGone l.old l.new) l.i l.list.items
