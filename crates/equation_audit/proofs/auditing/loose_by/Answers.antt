use Rattle.std.proofs.Common.{◌∙◌, sym}
use Rattle.equation_audit.proofs.FindingLemmas.{not_released, denied_loose}
use Rattle.equation_audit.proofs.auditing.loose_by.Goals as goal

pub returns-then-not-is_released-clause-none : goal.returns-then-not-is_released-clause-none
returns-then-not-is_released-clause-none g c = not_released c.args.station.now c.args.block.now c.args.vector.now
    (sym c.is_released.ensures ∙ c.if-not-is_released.true)

pub returns-in-Denied-clause-some : goal.returns-in-Denied-clause-some
returns-in-Denied-clause-some g c = denied_loose c.args.station.now c.args.block.now c.args.vector.now
    c.in_ok-ask.field-0 c.in-Denied.rule c.in-Denied.reading (sym c.is_released.ensures ∙ c.if-not-is_released.false)
    c.in_ok-ask.ensures c.in-Denied.is
