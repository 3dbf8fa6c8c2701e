use Rattle.std.proofs.Common.{◌≡◌, ◌++◌, take}
use Rattle.std.specs.List.{flat_map}
use Rattle.structured_text.specs.declared.line.Line.{Line}
use Rattle.structured_text.specs.Spelling.{line_text}
use Rattle.structured_text.proofs.writing.write_lines.Given as goal

abbrev pub invariant-loop-line : goal.invariant-loop-line
invariant-loop-line l =
    l.text ≡ l.fn.text ++ flat_map (λ (x : Line). line_text l.station x) (take l.line-index l.lines)
