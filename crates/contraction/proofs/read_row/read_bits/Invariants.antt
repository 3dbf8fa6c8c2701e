use Rattle.std.proofs.Common.{◌≡◌, ◌<◌, map, eqb, length, slice_get, ℕ}
use Rattle.contraction.proofs.read_row.read_bits.Given as goal

abbrev pub invariant-loop-i : goal.invariant-loop-i
invariant-loop-i l =
    (length l.bits ≡ length l.bytes)
    × ((k : ℕ) → k < l.i → slice_get l.bits k ≡ slice_get (map (λ (b : ℕ). eqb b 1) l.bytes) k)
