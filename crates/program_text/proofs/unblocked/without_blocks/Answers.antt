use Rattle.std.proofs.Common.{◌∙◌, ap, arith}
use Rattle.program_text.specs.Unblocked.{set_variables}
use Rattle.program_text.proofs.UnblockedLemmas.{lines_stand}
use Rattle.program_text.proofs.unblocked.without_blocks.Goals as goal

pub returns : goal.returns
returns c =
    let steps = c.in_ok-steps.steps in
    let held = steps.ok in
    let small = steps.small in
    lines_stand c.args.station.now c.args.lines.now c.new-blocks.result.items steps.items
    c.in_ok-variables.variables.items c.requires.order c.requires.within (omega (arith, held.0, held.1, small))
    c.new-blocks.ensures.items c.in_ok-steps.ensures
    (c.in_ok-variables.ensures
    ∙ (ap (λ bs. set_variables bs c.deref-2.result.now) c.deref.ensures.value
    ∙ ap (λ xs. set_variables c.new-blocks.result.items xs) c.deref-2.ensures.value))
