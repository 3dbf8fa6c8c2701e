use Rattle.station_changes.proofs.MirrorLemmas.{same_back}
use Rattle.station_compare.proofs.likeness.LikeBays.twin_agrees.Goals as goal

pub returns-in-None : goal.returns-in-None
returns-in-None c is i same =
    absurd (c.in-None.ensures.none i (same_back c.args.old.now c.args.new.now i c.args.id.0 same))
