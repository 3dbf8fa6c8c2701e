use Rattle.std.proofs.Common.{◌≡◌, ℕ, List, length, ap, ◌∙◌, arith}
use Rattle.contraction.proofs.RowLemmas.{length-words, same_entries}
use Rattle.contraction.proofs.numbers.read_numbers.Goals as goal

pub returns-clause-read : goal.returns-clause-read
returns-clause-read c = λ numbers e.
    let found : List ℕ = c.loop-i.numbers in
    let long : length found ≡ length numbers =
    omega (arith, c.loop-i.invariant.0, ap length e ∙ length-words numbers) in
    same_entries found numbers long (λ k k_in. c.loop-i.invariant.1 numbers e k (omega (arith, c.loop-i.invariant.0)))
