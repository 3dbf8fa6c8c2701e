use Rattle.structured_text.specs.Within.{LinesWithin}
use Rattle.program_text.specs.Releases.{MeansReleases}
use Rattle.program_text.proofs.release.release_lines.Given as goal

abbrev pub invariant-loop-i : goal.invariant-loop-i
invariant-loop-i l =
    MeansReleases l.station l.may l.sure l.gap l.load l.bond l.i l.lines.items
    × LinesWithin l.station l.lines.items
