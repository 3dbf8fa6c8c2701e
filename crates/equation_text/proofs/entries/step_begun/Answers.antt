use Rattle.std.proofs.Common.{◌∙◌, ◌++◌, ◌∷◌, List, ℕ, sym, ap, arith}
use Rattle.std.specs.Prelude.{codes, decimal}
use Rattle.std.proofs.lemmas.List.{append_cancel_left}
use Rattle.equation_text.proofs.WordLemmas.{not_cut, cut_said, lacks_decimal}
use Rattle.equation_text.proofs.EntryLemmas.{step_head}
use Rattle.equation_text.proofs.entries.step_begun.Goals as goal

pub returns-in_default-clause-none : goal.returns-in_default-clause-none
returns-in_default-clause-none c = λ p m rest small is. c.in_default.ensures.none (decimal p ++ 32 ∷
    (decimal m ++ 32 ∷ rest)) (is ∙ step_head p m rest)

pub returns-in_default-cut_word-clause-none : goal.returns-in_default-cut_word-clause-none
returns-in_default-cut_word-clause-none c = λ p m rest small is.
    let words = append_cancel_left (codes "step ") c.in-Some.words.now (decimal p ++ 32 ∷ (decimal m ++ 32 ∷ rest))
    (sym c.in-Some.ensures.some ∙ is ∙ step_head p m rest) in
    not_cut 32 c.in-Some.words.now (decimal p) (decimal m ++ 32 ∷ rest) c.in_default-cut_word.ensures.none words

pub returns-in_default-decimal_number-clause-none : goal.returns-in_default-decimal_number-clause-none
returns-in_default-decimal_number-clause-none c = λ p m rest small is.
    let words = append_cancel_left (codes "step ") c.in-Some.words.now (decimal p ++ 32 ∷ (decimal m ++ 32 ∷ rest))
    (sym c.in-Some.ensures.some ∙ is ∙ step_head p m rest) in
    let first = cut_said 32 c.in-Some.words.now c.in-Some-cut_word.first.now (decimal p) c.in-Some-cut_word.rest.now
    (decimal m ++ 32 ∷ rest) c.in-Some-cut_word.ensures.some (lacks_decimal 32 p (omega arith) (omega
    (arith, small.0))) words in
    c.in_default-decimal_number.ensures.none p (record { small = small.0; written = first.0 })

pub returns-in_default-cut_word-2-clause-none : goal.returns-in_default-cut_word-2-clause-none
returns-in_default-cut_word-2-clause-none c = λ p m rest small is.
    let words = append_cancel_left (codes "step ") c.in-Some.words.now (decimal p ++ 32 ∷ (decimal m ++ 32 ∷ rest))
    (sym c.in-Some.ensures.some ∙ is ∙ step_head p m rest) in
    let first = cut_said 32 c.in-Some.words.now c.in-Some-cut_word.first.now (decimal p) c.in-Some-cut_word.rest.now
    (decimal m ++ 32 ∷ rest) c.in-Some-cut_word.ensures.some (lacks_decimal 32 p (omega arith) (omega
    (arith, small.0))) words in
    not_cut 32 c.in-Some-cut_word.rest.now (decimal m) rest c.in_default-cut_word-2.ensures.none first.1

pub returns-in_default-decimal_number-2-clause-none : goal.returns-in_default-decimal_number-2-clause-none
returns-in_default-decimal_number-2-clause-none c = λ p m rest small is.
    let words = append_cancel_left (codes "step ") c.in-Some.words.now (decimal p ++ 32 ∷ (decimal m ++ 32 ∷ rest))
    (sym c.in-Some.ensures.some ∙ is ∙ step_head p m rest) in
    let first = cut_said 32 c.in-Some.words.now c.in-Some-cut_word.first.now (decimal p) c.in-Some-cut_word.rest.now
    (decimal m ++ 32 ∷ rest) c.in-Some-cut_word.ensures.some (lacks_decimal 32 p (omega arith) (omega
    (arith, small.0))) words in
    let second = cut_said 32 c.in-Some-cut_word.rest.now c.in-Some-cut_word-2.second.now (decimal m)
    c.in-Some-cut_word-2._rest.now rest c.in-Some-cut_word-2.ensures.some (lacks_decimal 32 m (omega arith) (omega
    (arith, small.1))) first.1 in
    c.in_default-decimal_number-2.ensures.none m (record { small = small.1; written = second.0 })

pub returns-clause-some : goal.returns-clause-some
returns-clause-some c =
    let p = c.in-Some-decimal_number.part in
    let m = c.in-Some-decimal_number-2.number in
    let first = c.in-Some-decimal_number.ensures.some in
    let second = c.in-Some-decimal_number-2.ensures.some in
    let rest = c.in-Some-cut_word-2._rest.now in
    record {
      small = (first.small, second.small);
      rest = rest;
      is = c.in-Some.ensures.some
          ∙ ap (λ (z : List ℕ). codes "step " ++ z) (c.in-Some-cut_word.ensures.some.is
          ∙ ap (λ (z : List ℕ). z ++ 32 ∷ c.in-Some-cut_word.rest.now) first.written
          ∙ ap (λ (z : List ℕ). decimal p ++ 32 ∷ z) (c.in-Some-cut_word-2.ensures.some.is
          ∙ ap (λ (z : List ℕ). z ++ 32 ∷ rest) second.written))
          ∙ sym (step_head p m rest);
    }
