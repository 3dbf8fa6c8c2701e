use Rattle.std.proofs.Common.{◌≡◌, ◌≤◌, length}
use Rattle.std.specs.Prelude.{flat_map}
use Rattle.std.specs.Str.Lines.{lines}
use Rattle.text_lines.specs.Lines.{filled_lines, filled_left, line_count}
use Rattle.ilk_base.specs.declared.limits.TheConstants.{FILE_BYTES}
use Rattle.equation_audit.specs.Equations.{AreOfStation}
use Rattle.equation_audit.specs.BlockLines.{whole, OneEach, AllFew}
use Rattle.equation_audit.proofs.RestLemmas.{HasSaid}
use Rattle.equation_audit.proofs.read.read_blocks.Given as goal

abbrev pub invariant-loop-number : goal.invariant-loop-number
invariant-loop-number l =
    record {
      short : length l.bytes ≤ FILE_BYTES;
      said : HasSaid l.station (filled_lines l.bytes) (filled_left l.lines) (flat_map whole l.blocks.items);
      one_each : OneEach l.blocks.items;
      few : AllFew l.blocks.items;
      of_station : AreOfStation l.station l.blocks.items;
      count : line_count l.lines ≡ length (lines l.bytes);
    }

abbrev pub decreases-loop-number : goal.decreases-loop-number
decreases-loop-number l = length (filled_left l.lines)
