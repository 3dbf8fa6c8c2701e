use Rattle.station_compare.specs.Sharing.{AreLikes}
use Rattle.station_compare.proofs.sharing.all_likes.Given as goal

abbrev pub invariant-loop-part : goal.invariant-loop-part
invariant-loop-part l = AreLikes l.old l.new l.likes.items
