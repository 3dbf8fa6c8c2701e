use Rattle.std.proofs.Common.{◌∙◌, ◌<◌, List, length, sym, ap, arith}
use Rattle.std.specs.Prelude.{slice_get}
use Rattle.std.proofs.lemmas.Option.{slice_get-get_or}
use Rattle.part_alphabets.specs.declared.fork.PartStep.{PartStep}
use Rattle.station_equations.specs.EquationLines.{index_in}
use Rattle.equation_text.proofs.PastLemmas.{past_next}
use Rattle.equation_text.proofs.defined.index_count.Goals as goal

pub loop-step-preserved : goal.loop-step-preserved
loop-step-preserved c =
    let items = c.steps-step-items.result.now in
    let lt : c.loop-step.step-index < length c.steps-step-items.result.now = omega
    (arith, c.loop-step-test.true, c.loop-step.auto.step-index-end) in
    past_next (index_in c.args.part.now.start) c.args.part.now.steps c.loop-step.step-index _ c.loop-step.count
    c.past.result c.past-count-in-loop-step.result
    (ap (λ (xs : List PartStep). slice_get xs c.loop-step.step-index) (sym c.steps-step-items.ensures)
    ∙ slice_get-get_or c.steps-step-items.result.now c.loop-step.step-index _ lt) c.loop-step.invariant
    c.past.ensures c.past-count-in-loop-step.ensures
