use Rattle.std.proofs.Common.{Contains, take}
use Rattle.denial_explain.specs.Stepping.{ReachesAll}
use Rattle.denial_explain.proofs.steps.reach_all.Given as goal

abbrev pub invariant-loop-node : goal.invariant-loop-node
invariant-loop-node l =
    ReachesAll (Contains (take l.node-index l.nodes)) l.next l.initial.steps l.steps l.initial.queue l.queue
