use Rattle.std.proofs.Common.{◌≡◌, ◌<◌, ℕ, length, slice_get}
use Rattle.reservation_core.proofs.beside.words_of.Given as goal

abbrev pub invariant-loop-i : goal.invariant-loop-i
invariant-loop-i l = record {
  count : length l.words ≡ length l.node.words;
  done : (k : ℕ) → k < l.i → slice_get l.words k ≡ slice_get l.node.words k;
}
