use Rattle.std.proofs.Common.{[]}
use Rattle.std.specs.Prelude.{if◌then◌else◌}
use Rattle.program_blocks.specs.declared.block.Step.{Step}
use Rattle.program_text.specs.Unblocked.{step_variables}
use Rattle.program_text.specs.BayExchange.{is_picked}
use Rattle.program_text.proofs.AddedLemmas.{lists_on, lists_done}
use Rattle.program_text.proofs.bay_exchange.gives_of.Goals as goal

pub loop-step-preserved : goal.loop-step-preserved
loop-step-preserved c =
    let f = λ (x : Step). if is_picked c.args.bay.0 c.args.own x then step_variables c.args.blocks.now x else [] in
    lists_on f c.args.steps.now c.loop-step.step-index c.step-item.result c.step-item.result [] c.loop-step.names.items _
    c.loop-step-test.true c.step-item.is c.loop-step.invariant c.in_ok-add_picked_gives.ensures

pub returns : goal.returns
returns c =
    let f = λ (x : Step). if is_picked c.args.bay.0 c.args.own x then step_variables c.args.blocks.now x else [] in
    lists_done f c.args.steps.now c.loop-step.step-index [] c.loop-step.names.items c.loop-step-test.false
    c.loop-step.invariant
