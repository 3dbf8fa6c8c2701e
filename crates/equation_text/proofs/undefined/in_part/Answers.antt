use Rattle.std.proofs.Common.{◌∙◌, ◌++◌, List, ℕ, sym, subst}
use Rattle.std.proofs.lemmas.List.{append_cancel_left}
use Rattle.text_lines.specs.Decimals.{IsDecimal}
use Rattle.equation_text.specs.Faults.{IsNextWord}
use Rattle.equation_text.proofs.NumberLemmas.{next_once}
use Rattle.equation_text.proofs.undefined.in_part.Goals as goal

pub returns-in_default-clause-none : goal.returns-in_default-clause-none
returns-in_default-clause-none c = λ p more i. c.in_default.ensures.none i.rest i.is

pub returns-in_default-next_word-clause-none : goal.returns-in_default-next_word-clause-none
returns-in_default-next_word-clause-none c = λ p more i.
    let rest = append_cancel_left c.args.head.now c.in-Some.rest.now i.rest (sym c.in-Some.ensures.some ∙ i.is) in
    c.in_default-next_word.ensures.none (i.word ++ more) (rest ∙ i.next.is)

pub returns-in_default-decimal_number-clause-none : goal.returns-in_default-decimal_number-clause-none
returns-in_default-decimal_number-clause-none c = λ p more i.
    let rest = append_cancel_left c.args.head.now c.in-Some.rest.now i.rest (sym c.in-Some.ensures.some ∙ i.is) in
    let next = subst (λ (z : List ℕ). IsNextWord z i.word more) (sym rest) i.next in
    let once = next_once c.in-Some.rest.now c.in-Some-next_word.word.now i.word c.in-Some-next_word.more.now more
    c.in-Some-next_word.ensures.some next in
    c.in_default-decimal_number.ensures.none p (subst (λ (z : List ℕ). IsDecimal z p) (sym once.0) i.number)

pub returns-clause-some : goal.returns-clause-some
returns-clause-some c = record {
  rest = c.in-Some.rest.now;
  word = c.in-Some-next_word.word.now;
  is = c.in-Some.ensures.some;
  next = c.in-Some-next_word.ensures.some;
  number = c.in-Some-decimal_number.ensures.some;
}
