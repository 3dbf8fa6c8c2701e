use Rattle.station_compare.specs.Each.{AreEach}
use Rattle.station_compare.specs.Comparing.{IsFound}
use Rattle.station_compare.specs.Turning.{AreBayWalks, IsBayBefore, AreNarrowBefore}
use Rattle.station_compare.proofs.compare.found_by.Given as goal

abbrev pub invariant-loop-k : goal.invariant-loop-k
invariant-loop-k l =
    AreBayWalks l.old l.new l.walks × (AreEach (IsFound l.old l.new) l.k l.list.items
    × (IsBayBefore l.new l.walks.bay.0 l.k × AreNarrowBefore l.old l.new l.walks l.k))
