use Rattle.std.proofs.Common.{◌≡◌, ℕ, ◌*◌, ◌<◌, length, slice_index}
use Rattle.release_compile.specs.Rows.{IsByteOf}
use Rattle.release_compile.proofs.summary.row_of.Given as goal

abbrev pub invariant-loop-k : goal.invariant-loop-k
invariant-loop-k l = record {
  len : length l.row ≡ 32;
  bytes : (j : ℕ) → j < l.k → IsByteOf l.set (8 * j) (slice_index l.row j);
}
