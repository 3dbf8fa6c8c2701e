use Rattle.std.proofs.Common.{◌≡◌, ◌+◌, length, subst, arith}
use Rattle.station_joints.specs.Taking.{Olds, News, ArePairs}
use Rattle.station_joints.proofs.PairLemmas.{pairs_room}
use Rattle.station_joints.proofs.pairs.take_old_switches.Goals as goal

pub loop-i-init : goal.loop-i-init
loop-i-init c =
    let o = c.args.old.now in
    let n = c.args.new.now in
    pairs_room o n (Olds o n (length n.switches) 0 0 0) (News (length n.switches) 0 0) (length n.switches)
    (length n.switches + 0) c.args.pairs.now.items (omega arith) c.requires.pairs

pub returns : goal.returns
returns c =
    let o = c.args.old.now in
    let n = c.args.new.now in
    let done : c.loop-i.i ≡ length o.switches =
    omega (arith, c.loop-i.auto.i-end, c.loop-i-test.false, c.switch_count-i-end.ensures.count) in
    subst (λ i. ArePairs o n (Olds o n (length n.switches) i 0 0) (News (length n.switches) 0 0)
    (length n.switches + i) c.loop-i.pairs.items) done c.loop-i.invariant
