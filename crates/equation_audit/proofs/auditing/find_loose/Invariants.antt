use Rattle.std.proofs.Common.{ℕ, ◌<◌, length}
use Rattle.std.specs.Prelude.{replicate, false}
use Rattle.equation_audit.specs.Positions.{placed}
use Rattle.equation_audit.specs.Findings.{NoneLooseBy}
use Rattle.equation_audit.proofs.auditing.find_loose.Given as goal

abbrev pub invariant-loop-number : goal.invariant-loop-number
invariant-loop-number g l = (k : ℕ) → k < l.number →
    NoneLooseBy l.station l.block (placed (replicate (length l.station.switches) false) l.block-inside.own.items k)
