use Rattle.std.proofs.Common.{◌∙◌, ◌++◌, sym, arith}
use Rattle.std.specs.Prelude.{codes, decimal}
use Rattle.std.proofs.lemmas.Fmt.{decimal_injective}
use Rattle.station_equations.specs.EquationText.{target_text}
use Rattle.equation_text.proofs.WordLemmas.{not_cut, cut_said, lacks_decimal, lacks_target}
use Rattle.equation_text.proofs.lines.read_test.Goals as goal

pub returns-in_default-clause-none : goal.returns-in_default-clause-none
returns-in_default-clause-none c = λ s fits is. not_cut 32 c.args.words.now (decimal s.switch.0) (target_text s.off ++
    (codes " " ++ target_text s.on)) c.in_default.ensures.none is

pub returns-in_default-decimal_number-clause-none : goal.returns-in_default-decimal_number-clause-none
returns-in_default-decimal_number-clause-none c = λ s fits is.
    let first = cut_said 32 c.args.words.now c.in-Some.word.now (decimal s.switch.0) c.in-Some.rest.now
    (target_text s.off ++ (codes " " ++ target_text s.on)) c.in-Some.ensures.some (lacks_decimal 32 s.switch.0
    (omega arith) (omega (arith, fits.switch))) is in
    c.in_default-decimal_number.ensures.none s.switch.0
    (record { small = omega (arith, fits.switch); written = first.0 })

pub returns-in_default-cut_word-clause-none : goal.returns-in_default-cut_word-clause-none
returns-in_default-cut_word-clause-none c = λ s fits is.
    let first = cut_said 32 c.args.words.now c.in-Some.word.now (decimal s.switch.0) c.in-Some.rest.now
    (target_text s.off ++ (codes " " ++ target_text s.on)) c.in-Some.ensures.some (lacks_decimal 32 s.switch.0
    (omega arith) (omega (arith, fits.switch))) is in
    not_cut 32 c.in-Some.rest.now (target_text s.off) (target_text s.on) c.in_default-cut_word.ensures.none first.1

pub returns-in_default-target-clause-none : goal.returns-in_default-target-clause-none
returns-in_default-target-clause-none c = λ s fits is.
    let first = cut_said 32 c.args.words.now c.in-Some.word.now (decimal s.switch.0) c.in-Some.rest.now
    (target_text s.off ++ (codes " " ++ target_text s.on)) c.in-Some.ensures.some (lacks_decimal 32 s.switch.0
    (omega arith) (omega (arith, fits.switch))) is in
    let second = cut_said 32 c.in-Some.rest.now c.in-Some-cut_word.word.now
    (target_text s.off) c.in-Some-cut_word.rest.now (target_text s.on) c.in-Some-cut_word.ensures.some
    (lacks_target 32 s.off (omega arith) fits.off) first.1 in
    c.in_default-target.ensures.none s.off fits.off second.0

pub returns-in_default-target-2-clause-none : goal.returns-in_default-target-2-clause-none
returns-in_default-target-2-clause-none c = λ s fits is.
    let first = cut_said 32 c.args.words.now c.in-Some.word.now (decimal s.switch.0) c.in-Some.rest.now
    (target_text s.off ++ (codes " " ++ target_text s.on)) c.in-Some.ensures.some (lacks_decimal 32 s.switch.0
    (omega arith) (omega (arith, fits.switch))) is in
    let second = cut_said 32 c.in-Some.rest.now c.in-Some-cut_word.word.now
    (target_text s.off) c.in-Some-cut_word.rest.now (target_text s.on) c.in-Some-cut_word.ensures.some
    (lacks_target 32 s.off (omega arith) fits.off) first.1 in
    c.in_default-target-2.ensures.none s.on fits.on second.1

pub returns-then-switch-gt65535-clause-none : goal.returns-then-switch-gt65535-clause-none
returns-then-switch-gt65535-clause-none c = λ s fits is.
    let first = cut_said 32 c.args.words.now c.in-Some.word.now (decimal s.switch.0) c.in-Some.rest.now
    (target_text s.off ++ (codes " " ++ target_text s.on)) c.in-Some.ensures.some (lacks_decimal 32 s.switch.0
    (omega arith) (omega (arith, fits.switch))) is in
    let same = decimal_injective c.in-Some-decimal_number.switch s.switch.0
    (omega (arith, c.in-Some-decimal_number.ensures.some.small))
    (omega (arith, fits.switch)) (sym c.in-Some-decimal_number.ensures.some.written ∙ first.0) in
    omega (arith, same, fits.switch, c.if-switch-gt65535.true)
