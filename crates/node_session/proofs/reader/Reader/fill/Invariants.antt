use Rattle.std.proofs.Common.{◌≤◌, ◌+◌, ◌-◌, length}
use Rattle.node_session.specs.declared.request.TheConstants.{MOST_LINE}
use Rattle.node_session.specs.declared.reader.TheConstants.{CHUNK}
use Rattle.node_session.specs.Reading.{Grows, AsksNeeded}
use Rattle.node_session.proofs.Filling.{Recent}
use Rattle.node_session.proofs.reader.Reader.fill.Given as goal

abbrev pub invariant-loop-len : goal.invariant-loop-len
invariant-loop-len g l = record {
  grows : Grows l.fn.self l.self (g.I.Source.left l.fn.input) (g.I.Source.left l.input);
  recent : Recent l.self;
  asked : AsksNeeded l.fn.self l.self (g.I.Source.left l.fn.input) (g.I.Source.left_before l.fn.input)
      (g.I.Source.left_before l.input);
  few : length l.self ≤ MOST_LINE + 1 + CHUNK;
  faults : g.I.Source.faults l.fn.input ≤ g.I.Source.faults l.input;
}

abbrev pub decreases-loop-len : goal.decreases-loop-len
decreases-loop-len g l = MOST_LINE + 2 - length l.self
