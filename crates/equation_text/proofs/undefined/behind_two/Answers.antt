use Rattle.std.proofs.Common.{◌∙◌, ◌++◌, refl}
use Rattle.equation_text.specs.Faults.{Behind}
use Rattle.equation_text.proofs.NumberLemmas.{next_once}
use Rattle.equation_text.proofs.undefined.behind_two.Goals as goal

pub returns-in_default-clause-none : goal.returns-in_default-clause-none
returns-in_default-clause-none c = λ rest whole. c.in_default.ensures.none (whole.0 ++ whole.1) (whole.2).is

pub returns-in_default-next_word-clause-none : goal.returns-in_default-next_word-clause-none
returns-in_default-next_word-clause-none c = λ rest whole.
    let inner : Behind 1 whole.1 rest = whole.3 in
    let one = next_once c.args.text.now c.in-Some._first.now whole.0 c.in-Some.rest.now whole.1 c.in-Some.ensures.some
    whole.2 in
    c.in_default-next_word.ensures.none (inner.0 ++ inner.1) (one.1 ∙ (inner.2).is)

pub returns-clause-some : goal.returns-clause-some
returns-clause-some c = (
  c.in-Some._first.now,
  c.in-Some.rest.now,
  c.in-Some.ensures.some,
  (
    c.in-Some-next_word._second.now,
    c.in-Some-next_word.more.now,
    c.in-Some-next_word.ensures.some,
    refl,
  ),
)

pub returns-clause-ends : goal.returns-clause-ends
returns-clause-ends c = c.in-Some-next_word.ensures.some.ends
