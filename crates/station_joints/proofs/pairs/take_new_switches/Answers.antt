use Rattle.std.proofs.Common.{◌≡◌, ◌+◌, List, length, refl, sym, subst, arith}
use Rattle.station_joints.specs.declared.pairs.StepPair.{StepPair}
use Rattle.station_joints.specs.Taking.{Olds, News, ArePairs}
use Rattle.station_joints.proofs.PairLemmas.{no_pairs, new_switch_taken}
use Rattle.station_joints.proofs.pairs.take_new_switches.Goals as goal

pub loop-k-init : goal.loop-k-init
loop-k-init c =
    let o = c.args.old.now in
    let n = c.args.new.now in
    subst (λ (xs : List StepPair). ArePairs o n (Olds o n 0 0 0 0) (News 0 0 0) 0 xs) (sym c.requires) (no_pairs o n)

pub loop-k-preserved : goal.loop-k-preserved
loop-k-preserved c =
    let o = c.args.old.now in
    let n = c.args.new.now in
    let k = c.loop-k.k in
    subst (λ (xs : List StepPair). ArePairs o n (Olds o n (k + 1) 0 0 0) (News (k + 1) 0 0) (k + 1) xs)
    (sym c.in_ok-push.ensures.items)
    (new_switch_taken o n c.is_station.ensures c.switch_count-k-end.ensures.station k c.loop-k.pairs.items
    c.new_pair-pair.result (record { 0 = k }) c.loop-k.invariant refl
    (omega (arith, c.loop-k-test.true, c.switch_count-k-end.ensures.count)) c.new_pair-pair.ensures.second
    c.new_pair-pair.ensures.together)

pub returns : goal.returns
returns c =
    let o = c.args.old.now in
    let n = c.args.new.now in
    let done : c.loop-k.k ≡ length n.switches =
    omega (arith, c.loop-k.auto.k-end, c.loop-k-test.false, c.switch_count-k-end.ensures.count) in
    subst (λ k. ArePairs o n (Olds o n k 0 0 0) (News k 0 0) k c.loop-k.pairs.items) done c.loop-k.invariant
