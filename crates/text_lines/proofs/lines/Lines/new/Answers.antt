use Rattle.std.proofs.Common.{arith}
use Rattle.text_lines.proofs.LineLemmas.{length-lines}
use Rattle.text_lines.proofs.lines.Lines.new.Goals as goal

pub invariant_of-result : goal.invariant_of-result
invariant_of-result c = omega (arith, length-lines c.args.text.now, c.requires)
