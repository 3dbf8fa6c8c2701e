use Rattle.std.proofs.Common.{◌∙◌, ◌∷◌, List, ℕ, ap}
use Rattle.equation_text.proofs.undefined.next_word.Goals as goal

pub returns-in_default-clause-none : goal.returns-in_default-clause-none
returns-in_default-clause-none c = c.in_default.ensures.none

pub returns-clause-some : goal.returns-clause-some
returns-clause-some c = record {
  is = c.in-Some.ensures.some ∙ ap (λ (z : List ℕ). 32 ∷ z) c.first_word.ensures.is;
  first = c.first_word.ensures.first;
  ends = c.first_word.ensures.ends;
}
