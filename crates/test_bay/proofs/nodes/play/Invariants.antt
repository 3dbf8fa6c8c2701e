use Rattle.std.proofs.Common.{◌≡◌}
use Rattle.central_rules.specs.WordRows.{by_rows}
use Rattle.bay_protocol.specs.Fits.{IsNode, FitsHeard}
use Rattle.test_bay.proofs.nodes.play.Given as goal

abbrev pub invariant-loop-happens : goal.invariant-loop-happens
invariant-loop-happens g l = record {
  node : IsNode l.station l.node;
  fits : FitsHeard (by_rows l.station) l.node;
  bay : l.node.bay ≡ 1;
}
