use Rattle.std.proofs.Common.{◌∙◌, ◌++◌, ◌∷◌, List, ℕ, sym, ap, arith}
use Rattle.std.specs.Prelude.{codes, decimal}
use Rattle.std.proofs.lemmas.List.{append_cancel_left}
use Rattle.equation_text.proofs.WordLemmas.{not_cut, cut_said, lacks_decimal}
use Rattle.equation_text.proofs.EntryLemmas.{node_head}
use Rattle.equation_text.proofs.entries.node_begun.Goals as goal

pub returns-in_default-clause-none : goal.returns-in_default-clause-none
returns-in_default-clause-none c = λ n rest small is. c.in_default.ensures.none (decimal n ++ 32 ∷ rest)
    (is ∙ node_head n rest)

pub returns-in_default-cut_word-clause-none : goal.returns-in_default-cut_word-clause-none
returns-in_default-cut_word-clause-none c = λ n rest small is.
    let words = append_cancel_left (codes "node ") c.in-Some.words.now (decimal n ++ 32 ∷ rest)
    (sym c.in-Some.ensures.some ∙ is ∙ node_head n rest) in
    not_cut 32 c.in-Some.words.now (decimal n) rest c.in_default-cut_word.ensures.none words

pub returns-in_default-decimal_number-clause-none : goal.returns-in_default-decimal_number-clause-none
returns-in_default-decimal_number-clause-none c = λ n rest small is.
    let words = append_cancel_left (codes "node ") c.in-Some.words.now (decimal n ++ 32 ∷ rest)
    (sym c.in-Some.ensures.some ∙ is ∙ node_head n rest) in
    let first = cut_said 32 c.in-Some.words.now c.in-Some-cut_word.word.now (decimal n) c.in-Some-cut_word._rest.now
    rest c.in-Some-cut_word.ensures.some (lacks_decimal 32 n (omega arith) (omega (arith, small))) words in
    c.in_default-decimal_number.ensures.none n (record { small = small; written = first.0 })

pub returns-clause-some : goal.returns-clause-some
returns-clause-some c =
    let n = c.in-Some-decimal_number.number in
    let first = c.in-Some-decimal_number.ensures.some in
    let rest = c.in-Some-cut_word._rest.now in
    record {
      small = first.small;
      rest = rest;
      is = c.in-Some.ensures.some
          ∙ ap (λ (z : List ℕ). codes "node " ++ z) (c.in-Some-cut_word.ensures.some.is
          ∙ ap (λ (z : List ℕ). z ++ 32 ∷ rest) first.written)
          ∙ sym (node_head n rest);
    }
