use Rattle.std.proofs.Common.{◌∙◌, ◌++◌, ◌∷◌, List, ℕ, sym, ap}
use Rattle.std.proofs.lemmas.List.{append_cancel_left}
use Rattle.equation_text.proofs.front.behind_line.Goals as goal

pub returns-in_default-clause-none : goal.returns-in_default-clause-none
returns-in_default-clause-none c = λ rest is. c.in_default.ensures.none (10 ∷ rest) is

pub returns-in_default-behind-clause-none : goal.returns-in_default-behind-clause-none
returns-in_default-behind-clause-none c = λ rest is. c.in_default-behind.ensures.none rest (append_cancel_left
    c.args.line.now c.in-Some.rest.now (10 ∷ rest) (sym c.in-Some.ensures.some ∙ is))

pub returns-clause-some : goal.returns-clause-some
returns-clause-some c = c.in-Some.ensures.some ∙ ap (λ (z : List ℕ). c.args.line.now ++ z) c.in-Some-behind.ensures.some
