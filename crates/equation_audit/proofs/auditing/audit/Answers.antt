use Rattle.std.proofs.Common.{◌≡◌, ◌∙◌, sym, ap, subst, ◌+◌, List, [], ◌∷◌, ◌++◌, length, take, take_all, arith}
use Rattle.std.proofs.lemmas.List.Elements.{All-push}
use Rattle.equation_audit.specs.Equations.{Equation}
use Rattle.equation_audit.specs.declared.finding.Finding.{Finding}
use Rattle.equation_audit.specs.Findings.{IsFinding, AreFindings, IsShown, AreShown}
use Rattle.equation_audit.proofs.PlaceLemmas.{take-next}
use Rattle.equation_audit.proofs.BodyLemmas.{AllZip-append}
use Rattle.equation_audit.proofs.FindingLemmas.{differ_exactly}
use Rattle.equation_audit.proofs.auditing.audit.Goals as goal

pub loop-block-preserved : goal.loop-block-preserved
loop-block-preserved g c =
    let those = c.deref-block-items.ensures.value ∙ c.blocks-2.view_is in
    let next = take-next c.deref-block-items.result.now c.loop-block.block-index c.block-item.result
    c.loop-block-test.true ∙ ap (λ (e : Equation). take c.loop-block.block-index c.deref-block-items.result.now ++ e
    ∷ []) (sym c.block-item.is) in
    let before = subst (λ (es : List Equation). AreFindings c.args.station.now (take c.loop-block.block-index es)
    c.loop-block.findings.items) (sym those) c.loop-block.invariant.found in
    let after = AllZip-append (IsFinding c.args.station.now)
    (take c.loop-block.block-index c.deref-block-items.result.now) (c.block-item.result ∷ [])
    c.loop-block.findings.items (c.in_ok-audit_block.field-0 ∷ []) before (c.in_ok-audit_block.ensures.finding, tt) in
    record {
      found = subst (λ (es : List Equation). AreFindings c.args.station.now (take (c.loop-block.block-index + 1) es)
          c.push.new.self.items) those
          (subst (λ (fs : List Finding). AreFindings c.args.station.now
          (take (c.loop-block.block-index + 1) c.deref-block-items.result.now) fs) (sym c.in_ok-push.ensures.items)
          (subst (λ (es : List Equation). AreFindings c.args.station.now es
          (c.loop-block.findings.items ++ c.in_ok-audit_block.field-0 ∷ [])) (sym next) after));
      shown = subst (AreShown c.args.station.now) (sym c.in_ok-push.ensures.items)
          (All-push (IsShown c.args.station.now) c.loop-block.findings.items c.in_ok-audit_block.field-0
          c.loop-block.invariant.shown c.in_ok-audit_block.ensures.shown);
    }

pub returns-clause-differs : goal.returns-clause-differs
returns-clause-differs g c =
    let those = c.deref-block-items.ensures.value ∙ c.blocks-2.view_is in
    let all : take c.loop-block.block-index c.args.blocks.now ≡ c.args.blocks.now =
    take_all c.loop-block.block-index c.args.blocks.now (omega (arith, c.loop-block-test.false, ap length those)) in
    differ_exactly c.args.station.now c.args.blocks.now c.loop-block.findings.items
    (subst (λ (es : List Equation). AreFindings c.args.station.now es c.loop-block.findings.items) all
    c.loop-block.invariant.found)
