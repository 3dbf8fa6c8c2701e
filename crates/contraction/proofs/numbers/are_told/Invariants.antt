use Rattle.std.proofs.Common.{◌≡◌, ℕ, ◌<◌, List, slice_index}
use Rattle.contraction.specs.Rows.{words}
use Rattle.contraction.proofs.numbers.are_told.Given as goal

abbrev pub invariant-loop-i : goal.invariant-loop-i
invariant-loop-i l =
    (xs : List ℕ) → l.fn.bytes ≡ words xs → (k : ℕ) → k < l.i → slice_index l.fn.numbers k ≡ slice_index xs k
