use Rattle.std.proofs.Common.{◌≡◌, ◌≤◌, ◌+◌, length}
use Rattle.std.specs.Str.Lines.{lines}
use Rattle.text_lines.specs.Lines.{filled_from, filled_left, line_count}
use Rattle.text_lines.specs.declared.lines.TheConstants.{MOST_BYTES}
use Rattle.text_lines.proofs.lines.Lines.next_filled.Given as goal

abbrev pub invariant-loop-self : goal.invariant-loop-self
invariant-loop-self l =
    record {
      filled : filled_from (l.self-inside.passed + 1) (lines l.self-inside.left.now) ≡ filled_left l.fn.self;
      count : l.self-inside.passed + length (lines l.self-inside.left.now) ≡ line_count l.fn.self;
      few : line_count l.fn.self ≤ MOST_BYTES;
    }

abbrev pub decreases-loop-self : goal.decreases-loop-self
decreases-loop-self l = length l.self-inside.left.now
