use Rattle.station_compare.proofs.SharingLemmas.{likes_none, likes_more}
use Rattle.station_compare.proofs.sharing.all_likes.Goals as goal

pub loop-part-init : goal.loop-part-init
loop-part-init c = rw c.new-likes.ensures.items (likes_none c.args.old.now c.args.new.now)

pub loop-part-preserved : goal.loop-part-preserved
loop-part-preserved c =
    rw c.in_ok-push.ensures.items (likes_more c.args.old.now c.args.new.now c.loop-part.likes.items c.in_ok-like.like
    c.loop-part.invariant c.in_ok-like.ensures)
