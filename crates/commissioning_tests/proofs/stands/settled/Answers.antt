use Rattle.std.proofs.Common.{arith}
use Rattle.commissioning_tests.proofs.StandLemmas.{settled_more, settled_stands}
use Rattle.commissioning_tests.proofs.stands.settled.Goals as goal

pub loop-s-preserved : goal.loop-s-preserved
loop-s-preserved c =
    rw c.in_ok-push.ensures.items (settled_more c.args.stands.now c.loop-s.list.items c.loop-s.s c.settled_at.result
    c.loop-s.invariant c.settled_at.ensures)

pub returns : goal.returns
returns c =
    settled_stands c.args.station.now c.args.first.0 c.args.count c.args.stands.now c.loop-s.list.items c.loop-s.s
    c.loop-s.invariant (omega (arith, c.loop-s-test.false, c.loop-s.auto.s-end, c.switch_count-s-end.ensures))
    c.requires.len c.requires.standing
