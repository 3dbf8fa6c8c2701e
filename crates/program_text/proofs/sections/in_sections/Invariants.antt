use Rattle.structured_text.specs.Within.{LinesWithin}
use Rattle.program_text.specs.Sections.{AreSortedTo}
use Rattle.program_text.proofs.sections.in_sections.Given as goal

abbrev pub invariant-loop-section : goal.invariant-loop-section
invariant-loop-section l =
    AreSortedTo l.lines l.keys l.section 0 l.sorted.items × LinesWithin l.station l.sorted.items
