use Rattle.std.proofs.Common.{◌≡◌, ◌++◌, List, ℕ, length}
use Rattle.equation_text.specs.Faults.{EndsInLf}
use Rattle.equation_text.proofs.front.pass_lines.Given as goal

abbrev pub invariant-loop-line : goal.invariant-loop-line
invariant-loop-line l =
    record {
      before : List ℕ;
      whole : EndsInLf before;
      lines : l.lines ≡ before ++ l.wanted;
      passed : l.fn.left.text.now ≡ before ++ l.left.text.now;
      rest : EndsInLf l.wanted;
    }

abbrev pub decreases-loop-line : goal.decreases-loop-line
decreases-loop-line l = length l.wanted
