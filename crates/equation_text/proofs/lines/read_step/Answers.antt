use Rattle.std.proofs.Common.{◌∙◌, ◌++◌, List, ℕ, [], sym, ap, subst, arith}
use Rattle.std.specs.Prelude.{codes}
use Rattle.std.proofs.lemmas.List.{append_cancel_left}
use Rattle.equation_text.specs.Words.{numbered_head}
use Rattle.part_alphabets.specs.declared.fork.PartStep.{PartStep}
use Rattle.equation_text.specs.Beginnings.{MayBeStep, test_text}
use Rattle.equation_text.proofs.WordLemmas.{true_false}
use Rattle.equation_text.proofs.OnceLemmas.{test_once}
use Rattle.equation_text.proofs.SaidLemmas.{step_said}
use Rattle.equation_text.proofs.StepFits.{test_of}
use Rattle.equation_text.proofs.lines.read_step.Goals as goal

pub returns-in_default-clause-none : goal.returns-in_default-clause-none
returns-in_default-clause-none c = λ s may is. c.in_default.ensures.none (numbered_head [] c.args.m ++ test_text s)
    (is ∙ step_said c.args.part.0 c.args.m s)

pub returns-in_default-behind_number-clause-none : goal.returns-in_default-behind_number-clause-none
returns-in_default-behind_number-clause-none c = λ s may is.
    c.in_default-behind_number.ensures.none (test_text s) (append_cancel_left (numbered_head
    (codes "step ") c.args.part.0) c.in-Some.rest.now (numbered_head [] c.args.m ++ test_text s)
    (sym c.in-Some.ensures.some ∙ is ∙ step_said c.args.part.0 c.args.m s))

pub returns-in_default-read_test-clause-none : goal.returns-in_default-read_test-clause-none
returns-in_default-read_test-clause-none c = λ s may is.
    let rest = append_cancel_left (numbered_head (codes "step ") c.args.part.0) c.in-Some.rest.now
    (numbered_head [] c.args.m ++ test_text s) (sym c.in-Some.ensures.some ∙ is
    ∙ step_said c.args.part.0 c.args.m s) in
    let words = append_cancel_left (numbered_head [] c.args.m) c.in-Some-behind_number.words.now (test_text s)
    (sym c.in-Some-behind_number.ensures.some ∙ rest) in
    c.in_default-read_test.ensures.none s
    (test_of c.args.station.now c.args.part.0 c.args.m s c.switch_count-switches.ensures.station may) words

pub returns-then-not-may_be_step-clause-none : goal.returns-then-not-may_be_step-clause-none
returns-then-not-may_be_step-clause-none c = λ s may is.
    let rest = append_cancel_left (numbered_head (codes "step ") c.args.part.0) c.in-Some.rest.now
    (numbered_head [] c.args.m ++ test_text s) (sym c.in-Some.ensures.some ∙ is
    ∙ step_said c.args.part.0 c.args.m s) in
    let words = append_cancel_left (numbered_head [] c.args.m) c.in-Some-behind_number.words.now (test_text s)
    (sym c.in-Some-behind_number.ensures.some ∙ rest) in
    let here = c.in-Some-read_test.ensures.some in
    let test = test_of c.args.station.now c.args.part.0 c.args.m s c.switch_count-switches.ensures.station may in
    let same = test_once s c.in-Some-read_test.step (omega (arith, test.switch)) (omega
    (arith, here.0.switch)) test.off here.0.off test.on here.0.on (sym words ∙ here.1) in
    true_false (sym (c.may_be_step.ensures.1 (subst (λ
    (x : PartStep). MayBeStep c.args.station.now c.args.part.0 c.args.m x) same may)) ∙ c.if-not-may_be_step.true)

pub returns-clause-some : goal.returns-clause-some
returns-clause-some c =
    let here = c.in-Some-read_test.ensures.some in (
      c.may_be_step.ensures.0 c.if-not-may_be_step.false,
      c.in-Some.ensures.some
          ∙ ap (λ (z : List ℕ). numbered_head (codes "step ") c.args.part.0 ++ z) (c.in-Some-behind_number.ensures.some
          ∙ ap (λ (z : List ℕ). numbered_head [] c.args.m ++ z) here.1)
          ∙ sym (step_said c.args.part.0 c.args.m c.in-Some-read_test.step),
    )
