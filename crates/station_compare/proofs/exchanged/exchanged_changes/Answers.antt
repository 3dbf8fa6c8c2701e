use Rattle.station_changes.specs.declared.change.Change.TheVariants.{Stricter, Looser}
use Rattle.station_compare.proofs.exchanged.exchanged_changes.Goals as goal

pub returns : goal.returns
returns c a b x y ops r = record {
  stricter = c.in_ok-stricter.ensures a b x y Stricter ops r.stricter;
  looser = c.in_ok-looser.ensures a b x y Looser ops r.looser;
}
