use Rattle.std.proofs.Common.{◌∙◌, ◌++◌, ◌∷◌, List, ℕ, refl, sym, ap, subst, inl, inr}
use Rattle.ilk_base.specs.declared.words.Direction.TheVariants.{ToOff, ToOn}
use Rattle.station_equations.specs.declared.goal.SwitchGoals.{SwitchGoals}
use Rattle.station_equations.specs.EquationText.{op_line}
use Rattle.equation_text.specs.Stops.{NoOp}
use Rattle.equation_text.proofs.reading.next_ops.Goals as goal

pub returns-in_default-clause-none : goal.returns-in_default-clause-none
returns-in_default-clause-none c =
    let same = sym c.in_default.ensures.same in
    inl (same, subst (λ (z : List ℕ). NoOp ToOff c.args.switch z) same c.in_default.ensures.none)

pub returns-in_default-next_op-clause-none : goal.returns-in_default-next_op-clause-none
returns-in_default-next_op-clause-none c =
    let opening = c.in-Some.ensures.some in
    let y : SwitchGoals = record { opening = c.in-Some.opening; closing = c.in-Some.opening } in
    let same = sym c.in_default-next_op.ensures.same in
    inr (record {
      goals = y;
      fits = opening.0;
      passed = opening.1 y refl ∙ ap (λ (z : List ℕ). op_line ToOff c.args.switch y ++ 10 ∷ z) same;
      none = subst (λ (z : List ℕ). NoOp ToOn c.args.switch z) same c.in_default-next_op.ensures.none;
    })

pub returns-clause-some : goal.returns-clause-some
returns-clause-some c =
    let opening = c.in-Some.ensures.some in
    let closing = c.in-Some-next_op.ensures.some in
    let y : SwitchGoals = record { opening = c.in-Some.opening; closing = c.in-Some-next_op.closing } in (
      record { opening = opening.0; closing = closing.0 },
      opening.1 y refl ∙ ap (λ (z : List ℕ). op_line ToOff c.args.switch y ++ 10 ∷ z) (closing.1 y refl),
    )
