use Rattle.structured_text.specs.Within.{LinesWithin}
use Rattle.program_text.specs.Sections.{AreSortedTo}
use Rattle.program_text.proofs.sections.add_section.Given as goal

abbrev pub invariant-loop-i : goal.invariant-loop-i
invariant-loop-i l =
    AreSortedTo l.lines l.keys l.section l.i l.sorted.items × LinesWithin l.station l.sorted.items
