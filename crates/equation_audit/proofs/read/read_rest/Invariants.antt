use Rattle.std.proofs.Common.{◌≡◌, ◌≢◌, [], length}
use Rattle.text_lines.specs.Lines.{filled_left, line_count}
use Rattle.equation_audit.specs.Equations.{OwnBelow, HasFewOwn}
use Rattle.equation_audit.specs.BlockLines.{body}
use Rattle.equation_audit.proofs.RestLemmas.{HasSaid}
use Rattle.equation_audit.proofs.read.read_rest.Given as goal

abbrev pub invariant-loop-number : goal.invariant-loop-number
invariant-loop-number l =
    record {
      said : HasSaid l.station (filled_left l.fn.lines) (filled_left l.lines) (body l.draft);
      some : l.draft ≢ [];
      below : OwnBelow (length l.station.switches) l.draft;
      few : HasFewOwn l.draft;
      count : line_count l.lines ≡ line_count l.fn.lines;
    }

abbrev pub decreases-loop-number : goal.decreases-loop-number
decreases-loop-number l = length (filled_left l.lines)
