use Rattle.std.proofs.lemmas.Option.{slice_get-get_or}
use Rattle.part_alphabets.specs.declared.fork.Target.TheVariants.{Step}
use Rattle.part_alphabets.specs.declared.fork.PartStep.{PartStep}
use Rattle.station_equations.specs.EquationText.{step_line}
use Rattle.station_equations.proofs.TextLemmas.{line_more}
use Rattle.station_equations.proofs.writing.push_steps.Goals as goal

pub loop-i-preserved : goal.loop-i-preserved
loop-i-preserved c =
    let steps = c.args.steps.now in
    let none : PartStep = record { switch = record { 0 = 0 }; off = Step 0; on = Step 0 } in
    line_more (λ m (s : PartStep). step_line c.args.part m s) steps c.loop-i.i _ _ _ _
    (slice_get-get_or steps c.loop-i.i none c.loop-i-test.true) c.loop-i.invariant c.in_ok-push_step.ensures
