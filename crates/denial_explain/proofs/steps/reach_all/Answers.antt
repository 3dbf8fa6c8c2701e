use Rattle.denial_explain.proofs.ReachLemmas.{ReachesAll-turn}
use Rattle.denial_explain.proofs.steps.reach_all.Goals as goal

pub loop-node-preserved : goal.loop-node-preserved
loop-node-preserved c =
    ReachesAll-turn c.args.nodes.now c.loop-node.node-index c.args.next c.args.steps.now c.loop-node.steps
    c.reach.new.steps c.args.queue.now c.loop-node.queue c.reach.new.queue c.loop-node-test.true c.loop-node.invariant
    c.in_ok-reach.ensures
