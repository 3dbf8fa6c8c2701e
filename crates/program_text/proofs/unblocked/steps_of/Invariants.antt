use Rattle.std.proofs.Common.{◌≡◌, take}
use Rattle.program_text.specs.Unblocked.{assigned}
use Rattle.program_text.proofs.unblocked.steps_of.Given as goal

abbrev pub invariant-loop-line : goal.invariant-loop-line
invariant-loop-line l = l.steps.items ≡ assigned (take l.line-index l.lines)
