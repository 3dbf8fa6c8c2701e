use Rattle.std.proofs.Common.{arith}
use Rattle.bay_contract.proofs.PartsLemmas.{parts_none, parts_more, parts_refused, parts_all, parts_uniform}
use Rattle.bay_contract.proofs.PatternLemmas.{patterns_none}
use Rattle.bay_contract.proofs.parts.Parts.new.Goals as goal

pub parts-init : goal.parts-init
parts-init c = (
  parts_none c.args.station.now c.new-alphabets.result.items c.new-alphabets.ensures.items,
  patterns_none
      c.args.station.now c.new-patterns.result.items c.new-patterns.ensures.items,
)

pub parts-preserved : goal.parts-preserved
parts-preserved c = (
  parts_more c.args.station.now c.parts.alphabets.items c.keep.new.alphabets.items c.parts.part c.in-Ok.alphabet
      c.parts.invariant.0 c.in_ok-keep-in-Ok.ensures c.in-Ok.ensures.built c.in-Ok.ensures.steps
      c.in-Ok.ensures.fits,
  c.in-Ok.ensures.patterns,
)

pub returns-in-Err-clause-refusal : goal.returns-in-Err-clause-refusal
returns-in-Err-clause-refusal c =
    parts_refused c.args.station.now c.parts.alphabets.items c.parts.part c.in-Err.refusal c.parts.invariant.0
    c.in-Err.ensures.refusal

pub returns-clause-alphabets : goal.returns-clause-alphabets
returns-clause-alphabets c =
    parts_all c.args.station.now (record {
      switches = c.switch_count.result;
      parts =
          c.parts.alphabets.items;
    }) c.parts.part (omega
    (arith, c.part_count-part-end.ensures.count, c.parts-test.false, c.parts.auto.part-end))
    c.switch_count.ensures.count c.parts.invariant.0

pub returns-clause-fits : goal.returns-clause-fits
returns-clause-fits c = λ p lt. c.parts.invariant.0.fits p (omega
    (arith, c.part_count-part-end.ensures.count, c.parts-test.false, c.parts.auto.part-end))

pub invariant_of-result : goal.invariant_of-result
invariant_of-result c = parts_uniform c.args.station.now (record {
  switches = c.switch_count.result;
  parts = c.parts.alphabets.items;
}) c.parts.part c.switch_count.ensures.count c.parts.invariant.0
