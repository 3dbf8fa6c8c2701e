use Rattle.std.proofs.Common.{refl}
use Rattle.commissioning_tests.proofs.ListedLemmas.{needs_step}
use Rattle.commissioning_tests.proofs.lists.needs_of.Goals as goal

pub loop-s-preserved : goal.loop-s-preserved
loop-s-preserved c =
    rw c.in_ok-push_switch.ensures (needs_step c.args.station.now c.args.operations.now c.args.stands.now
    c.args.positions.now c.args.first.0 c.args.count c.loop-s.s c.stand_of-stand.result.0 c.requires.positions
    c.requires.covered c.requires.operations c.requires.stands c.stand_of-stand.ensures c.loop-s.needs.items _
    c.is_needed-needed.result refl c.is_needed-needed.ensures.shown c.is_needed-needed.ensures.none
    c.loop-s.invariant)
