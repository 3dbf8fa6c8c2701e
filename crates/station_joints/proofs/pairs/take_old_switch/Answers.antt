use Rattle.std.proofs.Common.{◌+◌, List, length, refl, sym, subst, arith}
use Rattle.std.proofs.lemmas.Option.{slice_get_within}
use Rattle.station_joints.specs.declared.pairs.StepPair.{StepPair}
use Rattle.station_joints.specs.Taking.{Olds, News, ArePairs}
use Rattle.station_joints.proofs.PairLemmas.{pairs_room, old_switch_taken, old_switch_counted}
use Rattle.station_joints.proofs.pairs.take_old_switch.Goals as goal

pub returns-in-Some : goal.returns-in-Some
returns-in-Some c =
    let o = c.args.old.now in
    let n = c.args.new.now in
    let i = c.args.id.0 in
    let same = c.in-Some.ensures.found in
    pairs_room o n (Olds o n (length n.switches) (i + 1) 0 0) (News (length n.switches) 0 0)
    (length n.switches + i + 1) (length n.switches + (i + 1)) c.args.pairs.now.items (omega arith)
    (old_switch_counted o n (length n.switches) i 0 0 (length n.switches) 0 0 (length n.switches + i)
    c.args.pairs.now.items c.args.rank c.requires.pairs _ (slice_get_within n.switches _ same.new same.new_at) same)

pub returns-in_ok-push-in-None : goal.returns-in_ok-push-in-None
returns-in_ok-push-in-None c =
    let o = c.args.old.now in
    let n = c.args.new.now in
    let i = c.args.id.0 in
    subst (λ (xs : List StepPair). ArePairs o n (Olds o n (length n.switches) (i + 1) 0 0)
    (News (length n.switches) 0 0) (length n.switches + (i + 1)) xs) (sym c.in_ok-push-in-None.ensures.items)
    (pairs_room o n (Olds o n (length n.switches) (i + 1) 0 0) (News (length n.switches) 0 0)
    (length n.switches + i + 1) (length n.switches + (i + 1)) _ (omega arith)
    (old_switch_taken o n (length n.switches) i 0 0 (length n.switches) 0 0 (length n.switches + i)
    c.args.pairs.now.items c.args.rank c.requires.pairs c.args.id refl c.requires.within c.in-None.ensures.none))
