use Rattle.std.proofs.Common.{◌≡◌, ◌≤◌, length}
use Rattle.bay_protocol.specs.Fits.{IsNode, FitsHeard}
use Rattle.node_session.specs.declared.reader.TheConstants.{CHUNK}
use Rattle.node_session.specs.Progress.{Stands}
use Rattle.node_session.proofs.session.run.Given as goal

abbrev pub invariant-loop-count : goal.invariant-loop-count
invariant-loop-count g l = record {
  stands : Stands (g.J.Judge.meaning l.judge) l.station l.bay.0
      (record {
        input = g.I.Source.left l.fn.input;
        asked = g.I.Source.left_before l.fn.input;
        reads = g.I.Source.faults l.fn.input;
        out = g.O.Sink.took l.fn.out;
        writes = g.O.Sink.faults l.fn.out;
      })
      (record {
        input = g.I.Source.left l.input;
        asked = g.I.Source.left_before l.input;
        reads = g.I.Source.faults l.input;
        out = g.O.Sink.took l.out;
        writes = g.O.Sink.faults l.out;
      }) l.reader l.count l.node;
  node : IsNode l.station l.node;
  fits : FitsHeard (g.J.Judge.meaning l.judge) l.node;
  bay : l.node.bay ≡ l.bay.0;
  near : length l.reader ≤ CHUNK;
}
