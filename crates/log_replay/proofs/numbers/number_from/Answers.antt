use Rattle.std.proofs.Common.{◌≡◌, ◌∙◌, sym, arith}
use Rattle.log_replay.proofs.FieldLemmas.{decimal_tells}
use Rattle.log_replay.proofs.numbers.number_from.Goals.{then-number-least-via-then-number-least}
use Rattle.log_replay.proofs.numbers.number_from.Goals.{then-number-least-via-else-number-least+then-most-number}
use Rattle.log_replay.proofs.numbers.number_from.Goals as goal

pub returns-in_default-clause-none : goal.returns-in_default-clause-none
returns-in_default-clause-none c = λ n is. c.in_default.ensures.none n (record {
  small = omega (arith, is.high, c.ranges.most.fits);
  written = c.as_bytes.ensures.value ∙ is.written;
})

pub returns-then-number-least-clause-none : goal.returns-then-number-least-clause-none
returns-then-number-least-clause-none c = λ n is.
    let has = c.in-Some.ensures.some in
    let same : n ≡ c.in-Some.number = decimal_tells n c.in-Some.number (omega (arith, is.high, c.ranges.most.fits))
    (omega (arith, has.small)) (sym is.written ∙ sym c.as_bytes.ensures.value ∙ has.written) in
    elim c.then-number-least.branch [
      | then-number-least-via-then-number-least w ↦ absurd (omega (arith, w.if-number-least.true, same, is.low))
      | then-number-least-via-else-number-least+then-most-number w ↦ absurd
          (omega (arith, w.if-most-number.true, same, is.high))
    ]

pub returns-clause-some : goal.returns-clause-some
returns-clause-some c =
    let has = c.in-Some.ensures.some in
    record {
      written = sym c.as_bytes.ensures.value ∙ has.written;
      low = omega (arith, c.if-number-least.false);
      high = omega (arith, c.if-most-number.false);
    }
