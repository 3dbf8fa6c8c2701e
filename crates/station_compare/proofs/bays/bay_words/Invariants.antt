use Rattle.station_compare.specs.Each.{AreEach}
use Rattle.station_compare.specs.Bays.{IsBayWord}
use Rattle.station_compare.proofs.bays.bay_words.Given as goal

abbrev pub invariant-loop-p : goal.invariant-loop-p
invariant-loop-p l = AreEach (IsBayWord l.old l.new) l.p l.words.items
