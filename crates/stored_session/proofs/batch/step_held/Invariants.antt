use Rattle.std.proofs.Common.{◌≡◌, ◌≤◌, ◌-◌, None}
use Rattle.bay_protocol.specs.Fits.{IsNode, FitsHeard}
use Rattle.stored_session.specs.Batch.{StepsLines}
use Rattle.stored_session.proofs.batch.step_held.Given as goal

abbrev pub invariant-loop-batch : goal.invariant-loop-batch
invariant-loop-batch g l = record {
  steps : StepsLines (g.J.Judge.meaning l.judge) l.station l.bay.0 l.fn.node l.fn.reader l.node l.reader l.batch;
  going : l.batch.stop ≡ None;
  few : l.batch.count ≤ l.most;
  still : l.batch.count ≡ 0 → l.reader ≡ l.fn.reader;
  node : IsNode l.station l.node;
  fits : FitsHeard (g.J.Judge.meaning l.judge) l.node;
  bay : l.node.bay ≡ l.bay.0;
}

abbrev pub decreases-loop-batch : goal.decreases-loop-batch
decreases-loop-batch g l = l.most - l.batch.count
