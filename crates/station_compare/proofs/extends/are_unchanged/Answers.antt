use Rattle.std.proofs.Common.{refl, arith}
use Rattle.std.proofs.lemmas.Option.{slice_get_within}
use Rattle.station_compare.specs.Words.{IsUnchanged}
use Rattle.station_compare.proofs.ListLemmas.{below_next}
use Rattle.station_compare.proofs.extends.are_unchanged.Goals as goal

pub loop-found-preserved : goal.loop-found-preserved
loop-found-preserved c =
    below_next IsUnchanged c.args.here.now c.loop-found.found-index c.found-item.result c.loop-found-test.true
    c.found-item.is (c.is_unchanged.ensures.0 c.if-not-is_unchanged.false) c.loop-found.invariant

pub returns : goal.returns
returns c = (
  λ t k f at. c.loop-found.invariant k f
      (omega (arith, slice_get_within c.args.here.now k f at, c.loop-found-test.false)) at,
  λ h. refl,
)
