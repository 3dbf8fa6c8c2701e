use Rattle.std.proofs.Common.{arith}
use Rattle.std.proofs.lemmas.Option.{slice_get_within}
use Rattle.station_compare.proofs.likeness.LikeBays.agrees.Goals as goal

pub returns : goal.returns
returns c is i k same =
    c.loop-k.invariant i k
    (omega (
      arith,
      slice_get_within c.args.new.now.switches k same.new same.new_at,
      c.loop-k-test.false,
      c.switch_count-k-end.ensures.count,
      c.loop-k.auto.k-end,
    )) same
