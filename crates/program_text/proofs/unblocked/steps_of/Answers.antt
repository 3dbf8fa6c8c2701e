use Rattle.std.proofs.Common.{[], refl}
use Rattle.structured_text.specs.declared.line.Line.{Line}
use Rattle.program_blocks.specs.declared.block.Step.TheVariants.{Assign}
use Rattle.program_text.proofs.AddedLemmas.{one_on, one_done}
use Rattle.program_text.proofs.unblocked.steps_of.Goals as goal

pub loop-line-preserved : goal.loop-line-preserved
loop-line-preserved c =
    one_on (λ (x : Line). Assign x) c.args.lines.now c.loop-line.line-index _ _ [] c.loop-line.steps.items _
    c.loop-line-test.true refl c.loop-line.invariant c.in_ok-push.ensures.items

pub returns : goal.returns
returns c =
    one_done (λ (x : Line). Assign x) c.args.lines.now c.loop-line.line-index [] c.loop-line.steps.items
    c.loop-line-test.false c.loop-line.invariant
