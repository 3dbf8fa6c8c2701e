use Rattle.std.proofs.Common.{arith}
use Rattle.denial_explain.proofs.EndLemmas.{gathers_tap, taps_exact}
use Rattle.denial_explain.proofs.chains.tap_nodes.Goals as goal

pub loop-i-preserved : goal.loop-i-preserved
loop-i-preserved c =
    rw c.in_ok-push.ensures.ok
    (gathers_tap c.args.station.now c.loop-i.i c.loop-i.nodes c.tap.result c.tap.ensures.value c.loop-i.invariant)

pub returns-clause-exact : goal.returns-clause-exact
returns-clause-exact c = taps_exact c.args.station.now c.loop-i.i c.loop-i.nodes (omega arith) c.loop-i.invariant
