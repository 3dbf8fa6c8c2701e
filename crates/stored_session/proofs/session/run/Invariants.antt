use Rattle.std.proofs.Common.{◌≡◌, ◌≤◌, ◌+◌, ◌-◌, length}
use Rattle.bay_protocol.specs.Fits.{IsNode, FitsHeard}
use Rattle.node_session.specs.declared.end.TheConstants.{MOST_LINES}
use Rattle.node_session.specs.declared.reader.TheConstants.{CHUNK}
use Rattle.node_store.specs.Store.{store_sequence}
use Rattle.stored_session.specs.Progress.{StoredStands}
use Rattle.stored_session.proofs.session.run.Given as goal

abbrev pub invariant-loop-reached : goal.invariant-loop-reached
invariant-loop-reached g l = record {
  stands : StoredStands (record {
    content = g.D.Device.content;
    moment = g.D.Device.moment;
    between = g.D.Device.left_between;
    since = g.D.Device.left_since;
    reads = g.D.Device.read_faults;
    writes = g.D.Device.write_faults;
    calls = g.D.Device.calls;
  }) (g.J.Judge.meaning l.judge) l.station l.bay.0 l.fn.node
      (record {
        input = g.I.Source.left l.fn.input;
        asked = g.I.Source.left_before l.fn.input;
        reads = g.I.Source.faults l.fn.input;
        out = g.O.Sink.took l.fn.out;
        writes = g.O.Sink.faults l.fn.out;
      })
      (record {
        input = g.I.Source.left l.input;
        asked = g.I.Source.left_before l.input;
        reads = g.I.Source.faults l.input;
        out = g.O.Sink.took l.out;
        writes = g.O.Sink.faults l.out;
      })
      l.fn.device l.device l.reader l.reached.count l.reached.store l.node;
  node : IsNode l.station l.node;
  fits : FitsHeard (g.J.Judge.meaning l.judge) l.node;
  bay : l.node.bay ≡ l.bay.0;
  near : length l.reader ≤ CHUNK;
  room : store_sequence l.reached.store ≤ store_sequence l.fn.store + l.reached.count;
  few : l.reached.count ≤ MOST_LINES;
}

abbrev pub decreases-loop-reached : goal.decreases-loop-reached
decreases-loop-reached g l = MOST_LINES - l.reached.count
