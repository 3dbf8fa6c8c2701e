use Rattle.std.proofs.Common.{ℕ, ◌<◌, length}
use Rattle.std.specs.Prelude.{replicate, false, IfSome}
use Rattle.station_graph.specs.Alike.{IsVector}
use Rattle.equation_audit.specs.Positions.{placed}
use Rattle.equation_audit.specs.Findings.{IsStrictAt}
use Rattle.equation_audit.proofs.auditing.find_strict.Given as goal

abbrev pub invariant-loop-number : goal.invariant-loop-number
invariant-loop-number g l = record {
  tried : (k : ℕ) → k < l.number →
      ¬ IsStrictAt l.station l.block (placed (replicate (length l.station.switches) false) l.block-inside.own.items k);
  held : IfSome l.denial (IsVector l.station);
}
