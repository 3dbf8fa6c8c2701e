use Rattle.std.proofs.Common.{◌∙◌, ◌+◌, length, ap}
use Rattle.std.proofs.lemmas.List.{length_push}
use Rattle.station_equations.specs.EquationText.{step_line}
use Rattle.equation_text.proofs.ReadLoops.{line_next, steps_push}
use Rattle.equation_text.proofs.reading.read_steps.Goals as goal

pub loop-step-preserved : goal.loop-step-preserved
loop-step-preserved c =
    let inv = c.loop-step.invariant in
    let got = c.in-Some.ensures.some in
    record {
      count = ap length c.in_ok-push.ensures.items ∙ length_push c.loop-step.steps.items c.in-Some.step ∙ ap
          (λ n. n + 1) inv.count;
      each = steps_push c.args.station.now c.args.part.0 c.loop-step.m c.loop-step.steps.items c.push.new.self.items
          c.in-Some.step c.in_ok-push.ensures.items inv.count inv.each got.0;
      sound = line_next
          (step_line c.args.part.0) c.loop-step.steps.items c.push.new.self.items c.in-Some.step c.loop-step.m
          c.args.left.now.text.now c.loop-step.left.text.now c.next_step.new.left.text.now c.in_ok-push.ensures.items
          inv.count inv.sound got.1;
    }
