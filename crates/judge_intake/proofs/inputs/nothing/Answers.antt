use Rattle.std.proofs.Common.{◌∙◌}
use Rattle.contraction.specs.Answers.{Answers}
use Rattle.judge_intake.proofs.InputsLemmas.{nothing_of}
use Rattle.judge_intake.proofs.inputs.nothing.Goals as goal

pub returns-clause-nothing : goal.returns-clause-nothing
returns-clause-nothing c =
    let x : Answers = c.in_ok-value.value in
    nothing_of c.intern.new.self x c.in_ok-id.id c.in_ok-id.ensures.same
    (c.in_ok-value.ensures.kept ∙ c.new-nodes.ensures) c.in_ok-value.ensures.stands
