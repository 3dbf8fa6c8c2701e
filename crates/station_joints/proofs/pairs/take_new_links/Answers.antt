use Rattle.std.proofs.Common.{◌≡◌, ◌+◌, List, length, sym, subst, arith}
use Rattle.station_joints.specs.declared.pairs.StepPair.{StepPair}
use Rattle.station_joints.specs.Taking.{Olds, News, ArePairs}
use Rattle.station_joints.proofs.PairLemmas.{pairs_room, new_link_taken}
use Rattle.station_joints.proofs.pairs.take_new_links.Goals as goal

pub loop-i-init : goal.loop-i-init
loop-i-init c =
    let o = c.args.old.now in
    let n = c.args.new.now in
    pairs_room o n (Olds o n (length n.switches) (length o.switches) 0 0) (News (length n.switches) 0 0)
    (length n.switches + length o.switches) (length n.switches + length o.switches + 0) c.args.pairs.now.items (omega arith) c.requires

pub loop-i-preserved : goal.loop-i-preserved
loop-i-preserved c =
    let o = c.args.old.now in
    let n = c.args.new.now in
    let i = c.loop-i.i in
    subst (λ (xs : List StepPair). ArePairs o n (Olds o n (length n.switches) (length o.switches) 0 0) (News (length n.switches) (i + 1) 0)
    (length n.switches + length o.switches + (i + 1)) xs)
    (sym c.in_ok-push.ensures.items)
    (pairs_room o n (Olds o n (length n.switches) (length o.switches) 0 0) (News (length n.switches) (i + 1) 0)
    (length n.switches + length o.switches + i + 1) (length n.switches + length o.switches + (i + 1)) _ (omega arith)
    (new_link_taken o n (length n.switches) (length o.switches) 0 0 (length n.switches) i 0 (length n.switches + length o.switches + i) c.loop-i.pairs.items c.rank-rank.result c.loop-i.invariant
    (omega (arith, c.loop-i-test.true, c.link_count-i-end.ensures.count))))

pub returns : goal.returns
returns c =
    let o = c.args.old.now in
    let n = c.args.new.now in
    let done : c.loop-i.i ≡ length n.links =
    omega (arith, c.loop-i.auto.i-end, c.loop-i-test.false, c.link_count-i-end.ensures.count) in
    subst (λ i. ArePairs o n (Olds o n (length n.switches) (length o.switches) 0 0) (News (length n.switches) i 0) (length n.switches + length o.switches + i) c.loop-i.pairs.items) done c.loop-i.invariant
