use Rattle.std.proofs.Common.{◌≡◌, length, true, false, refl, ap, sym, ◌∙◌, arith}
use Rattle.contraction.proofs.RowLemmas.{length-words, same_entries}
use Rattle.contraction.proofs.numbers.are_told.Goals as goal

pub returns-then-numbers-bytes : goal.returns-then-numbers-bytes
returns-then-numbers-bytes c = λ list e. (
  λ told. absurd (let no : false ≡ true = told in cc),
  λ same. absurd (omega (arith, c.if-numbers-bytes.true, ap length same, ap length e ∙ length-words list)),
)

pub returns : goal.returns
returns c = λ list e. (
  λ told.
      let long : length c.args.numbers.now ≡ length list =
      omega (arith, c.if-numbers-bytes.false, ap length e ∙ length-words list) in
      sym (same_entries c.args.numbers.now list long (λ k k_in. c.loop-i.invariant list e k
      (omega (arith, c.loop-i-test.false)))),
  λ same. refl,
)
