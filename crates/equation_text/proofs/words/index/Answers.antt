use Rattle.std.proofs.Common.{◌∙◌, sym, arith}
use Rattle.std.proofs.lemmas.Fmt.{decimal_injective}
use Rattle.equation_text.proofs.WordLemmas.{index_word}
use Rattle.equation_text.proofs.words.index.Goals as goal

pub returns-in_default-clause-none : goal.returns-in_default-clause-none
returns-in_default-clause-none c = λ t small is.
    let i = index_word c.args.word.now t small is in
    c.in_default.ensures.none i.0 (record { small = omega (arith, i.1); written = i.2 })

pub returns-then-number-from-clause-none : goal.returns-then-number-from-clause-none
returns-then-number-from-clause-none c = λ t small is.
    let i = index_word c.args.word.now t small is in
    let same = decimal_injective c.in-Some.number i.0 (omega (arith, c.in-Some.ensures.some.small)) (omega (arith, i.1))
    (sym c.in-Some.ensures.some.written ∙ i.2) in
    omega (arith, same, i.1, c.if-number-from.true, c.from.ensures)
