use Rattle.std.proofs.Common.{take}
use Rattle.equation_audit.specs.Findings.{AreFindings, AreShown}
use Rattle.equation_audit.proofs.auditing.audit.Given as goal

abbrev pub invariant-loop-block : goal.invariant-loop-block
invariant-loop-block g l =
    record {
      found : AreFindings l.station (take l.block-index l.blocks) l.findings.items;
      shown : AreShown l.station l.findings.items;
    }
