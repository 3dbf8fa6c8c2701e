use Rattle.std.proofs.Common.{[]}
use Rattle.program_blocks.specs.declared.block.Step.{Step}
use Rattle.program_text.specs.Unblocked.{step_variables}
use Rattle.program_text.proofs.AddedLemmas.{lists_on, lists_done}
use Rattle.program_text.proofs.variables.variables_of.Goals as goal

pub loop-step-preserved : goal.loop-step-preserved
loop-step-preserved c =
    lists_on (λ (x : Step). step_variables c.args.blocks.now x) c.args.steps.now c.loop-step.step-index
    c.step-item.result c.step-item.result [] c.loop-step.variables.items _ c.loop-step-test.true c.step-item.is c.loop-step.invariant
    c.in_ok-add_step.ensures

pub returns : goal.returns
returns c =
    lists_done (λ (x : Step). step_variables c.args.blocks.now x) c.args.steps.now c.loop-step.step-index []
    c.loop-step.variables.items c.loop-step-test.false c.loop-step.invariant
