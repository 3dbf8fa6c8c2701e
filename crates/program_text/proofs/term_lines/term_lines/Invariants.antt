use Rattle.std.proofs.Common.{◌≡◌, length}
use Rattle.station_graph.specs.Diagram.{Diagram}
use Rattle.structured_text.specs.Within.{LinesWithin}
use Rattle.program_text.specs.TermLines.{MeansTerms}
use Rattle.program_text.proofs.term_lines.term_lines.Given as goal

abbrev pub invariant-loop-k : goal.invariant-loop-k
invariant-loop-k l =
    MeansTerms l.reading l.count l.terms l.places l.k l.lines.items
    × ((d : Diagram) → length d.switches ≡ l.count → LinesWithin d l.lines.items)
