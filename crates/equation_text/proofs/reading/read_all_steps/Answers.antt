use Rattle.std.proofs.Common.{◌≡◌, ◌∙◌, ◌+◌, [], ◌∷◌, ◌++◌, take, length, ap, add-one}
use Rattle.std.proofs.lemmas.List.{length_push}
use Rattle.station_equations.specs.EquationLines.{PartLines}
use Rattle.station_equations.proofs.TextLemmas.{take-next}
use Rattle.equation_text.proofs.ReadLoops.{all_steps_push}
use Rattle.equation_text.proofs.reading.read_all_steps.Goals as goal

pub loop-part-preserved : goal.loop-part-preserved
loop-part-preserved c =
    let inv = c.loop-part.invariant in
    let k = c.loop-part.part in
    let x : PartLines = record { start = c.start_at-start.result; steps = c.in_ok-steps.steps.items } in
    let next : take
    (c.loop-part.part + 1) c.args.starts.now ≡ take c.loop-part.part c.args.starts.now ++ c.start_at-start.result
    ∷ [] =
    ap (λ n. take n c.args.starts.now) (add-one c.loop-part.part)
    ∙ take-next c.args.starts.now c.loop-part.part c.start_at-start.result c.start_at-start.ensures in
    record {
      count = ap length c.in_ok-keep.ensures ∙ length_push c.loop-part.parts.items x ∙ ap (λ n. n + 1) inv.count;
      are = all_steps_push c.args.station.now c.args.starts.now (take c.loop-part.part c.args.starts.now) (take
          (c.loop-part.part + 1) c.args.starts.now) c.loop-part.part c.args.left.now.text.now
          c.loop-part.left.text.now c.read_steps.new.left.text.now c.loop-part.parts.items c.keep.new.parts.items x
          inv.count c.in_ok-keep.ensures next c.in_ok-steps.ensures.steps c.in_ok-steps.ensures.text
          c.in_ok-steps.ensures.last inv.are;
    }
