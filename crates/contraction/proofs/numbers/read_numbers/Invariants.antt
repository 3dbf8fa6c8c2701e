use Rattle.std.proofs.Common.{◌≡◌, ℕ, ◌<◌, ◌/◌, List, length, slice_index}
use Rattle.contraction.specs.Rows.{words}
use Rattle.contraction.proofs.numbers.read_numbers.Given as goal

abbrev pub invariant-loop-i : goal.invariant-loop-i
invariant-loop-i l =
    (length l.numbers ≡ length l.bytes / 2)
    × ((xs : List ℕ) → l.bytes ≡ words xs → (k : ℕ) → k < l.i → slice_index l.numbers k ≡ slice_index xs k)
