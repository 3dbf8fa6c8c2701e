use Rattle.std.proofs.Common.{arith}
use Rattle.program_text.proofs.SortLemmas.{all_sorted}
use Rattle.program_text.proofs.sections.in_sections.Goals as goal

pub returns-clause-reordered : goal.returns-clause-reordered
returns-clause-reordered c =
    let test = c.loop-section-test.false in
    all_sorted c.args.lines.now c.args.keys.now c.loop-section.section c.loop-section.sorted.items (omega (arith, test))
    c.requires.small c.loop-section.invariant.0
