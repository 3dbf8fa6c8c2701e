use Rattle.std.proofs.Common.{◌∙◌, ◌++◌, List, ℕ, sym, ap}
use Rattle.std.specs.Prelude.{codes}
use Rattle.std.proofs.lemmas.List.{append_cancel_left}
use Rattle.central_rules.specs.Names.{direction_name}
use Rattle.station_equations.specs.declared.goal.Goal.{Goal}
use Rattle.station_equations.specs.EquationLines.{goal_towards}
use Rattle.station_equations.specs.EquationText.{goal_text}
use Rattle.equation_text.specs.Words.{numbered_head}
use Rattle.equation_text.proofs.SaidLemmas.{op_said}
use Rattle.equation_text.proofs.lines.read_op.Goals as goal

pub returns-in_default-clause-none : goal.returns-in_default-clause-none
returns-in_default-clause-none c = λ x fits is. c.in_default.ensures.none (direction_name c.args.direction ++
    (codes " " ++ goal_text (goal_towards x c.args.direction))) (is ∙ op_said c.args.direction c.args.switch x)

pub returns-in_default-behind-clause-none : goal.returns-in_default-behind-clause-none
returns-in_default-behind-clause-none c = λ x fits is.
    let rest = append_cancel_left (numbered_head (codes "op ") c.args.switch) c.in-Some.rest.now
    (direction_name c.args.direction ++ (codes " " ++ goal_text (goal_towards x c.args.direction)))
    (sym c.in-Some.ensures.some ∙ is ∙ op_said c.args.direction c.args.switch x) in
    c.in_default-behind.ensures.none (codes " " ++ goal_text (goal_towards x c.args.direction)) (rest ∙ ap (λ
    (z : List ℕ). z ++ (codes " " ++ goal_text (goal_towards x c.args.direction))) (sym c.direction_name.ensures))

pub returns-in_default-behind-2-clause-none : goal.returns-in_default-behind-2-clause-none
returns-in_default-behind-2-clause-none c = λ x fits is.
    let rest = append_cancel_left (numbered_head (codes "op ") c.args.switch) c.in-Some.rest.now
    (direction_name c.args.direction ++ (codes " " ++ goal_text (goal_towards x c.args.direction)))
    (sym c.in-Some.ensures.some ∙ is ∙ op_said c.args.direction c.args.switch x) in
    let blank = append_cancel_left (direction_name c.args.direction) c.in-Some-behind.rest.now (codes " " ++ goal_text
    (goal_towards x c.args.direction)) (ap (λ (z : List ℕ). z ++ c.in-Some-behind.rest.now)
    (sym c.direction_name.ensures) ∙ sym c.in-Some-behind.ensures.some ∙ rest) in
    c.in_default-behind-2.ensures.none (goal_text (goal_towards x c.args.direction)) blank

pub returns-in_default-goal-clause-none : goal.returns-in_default-goal-clause-none
returns-in_default-goal-clause-none c = λ x fits is.
    let rest = append_cancel_left (numbered_head (codes "op ") c.args.switch) c.in-Some.rest.now
    (direction_name c.args.direction ++ (codes " " ++ goal_text (goal_towards x c.args.direction)))
    (sym c.in-Some.ensures.some ∙ is ∙ op_said c.args.direction c.args.switch x) in
    let blank = append_cancel_left (direction_name c.args.direction) c.in-Some-behind.rest.now (codes " " ++ goal_text
    (goal_towards x c.args.direction)) (ap (λ (z : List ℕ). z ++ c.in-Some-behind.rest.now)
    (sym c.direction_name.ensures) ∙ sym c.in-Some-behind.ensures.some ∙ rest) in
    let word = append_cancel_left (codes " ") c.in-Some-behind-2.word.now (goal_text
    (goal_towards x c.args.direction)) (sym c.in-Some-behind-2.ensures.some ∙ blank) in
    c.in_default-goal.ensures.none (goal_towards x c.args.direction) fits word

pub returns-clause-some : goal.returns-clause-some
returns-clause-some c =
    let h = c.in-Some-goal.ensures.some in (
      h.0,
      λ x same.
          c.in-Some.ensures.some
          ∙ ap (λ (z : List ℕ). numbered_head (codes "op ") c.args.switch ++ z)
          (c.in-Some-behind.ensures.some ∙ ap (λ
          (z : List ℕ). z ++ c.in-Some-behind.rest.now) c.direction_name.ensures
          ∙ ap (λ (z : List ℕ). direction_name c.args.direction ++ z) (c.in-Some-behind-2.ensures.some ∙ ap (λ
          (z : List ℕ). codes " " ++ z) (h.1 ∙ ap (λ (g : Goal). goal_text g) (sym same))))
          ∙ sym (op_said c.args.direction c.args.switch x),
    )
