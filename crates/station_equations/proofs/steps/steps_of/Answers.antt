use Rattle.std.proofs.Common.{◌∙◌, ◌+◌, length, ap}
use Rattle.std.proofs.lemmas.List.{length_push}
use Rattle.station_equations.proofs.CompileLemmas.{steps_more}
use Rattle.station_equations.proofs.steps.steps_of.Goals as goal

pub loop-i-preserved : goal.loop-i-preserved
loop-i-preserved c =
    let inv = c.loop-i.invariant in
    let items = c.in_ok-push.ensures.items in
    let is = c.step.ensures in
    record {
      count = ap length items ∙ length_push c.loop-i.steps.items c.step.result ∙ ap (λ n. n + 1) inv.count;
      each =
          λ m s at. steps_more c.args.parts.now c.args.part.0 c.loop-i.i c.loop-i.steps.items c.push.new.self.items
          c.step.result items inv.count (record { step = is.step; off = is.off; on = is.on; own = is.own }) inv.each m
          s at;
    }
