use Rattle.std.proofs.Common.{◌*◌, ◌+◌, ℕ, slice_index, ap, ◌∙◌, arith}
use Rattle.contraction.proofs.RowLemmas.{word_high, word_low}
use Rattle.contraction.proofs.numbers.number_at.Goals as goal

pub returns : goal.returns
returns c = λ numbers e.
    let i : ℕ = c.args.i in
    omega (
      arith,
      ap (λ b. slice_index b (2 * i)) e ∙ word_high numbers i,
      ap (λ b. slice_index b (2 * i + 1)) e ∙ word_low numbers i,
    )
