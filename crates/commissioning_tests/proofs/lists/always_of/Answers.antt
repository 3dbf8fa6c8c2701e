use Rattle.commissioning_tests.proofs.ListedLemmas.{always_step}
use Rattle.commissioning_tests.proofs.lists.always_of.Goals as goal

pub loop-k-preserved : goal.loop-k-preserved
loop-k-preserved c =
    rw c.in_ok-push_unless.ensures (always_step c.args.station.now c.args.operations.now c.args.stands.now c.args.positions.now c.loop-k.k
    c.loop-k.always.items c.is_denied.result _ c.loop-k-test.true c.requires.positions
    (c.requires.covered c.loop-k.k c.loop-k-test.true) c.is_denied.ensures c.loop-k.invariant)
