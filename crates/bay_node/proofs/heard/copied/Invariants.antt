use Rattle.std.proofs.Common.{◌≡◌, ◌<◌, ◌≤◌, ℕ, length, slice_get, Some, None}
use Rattle.bay_node.proofs.heard.copied.Given as goal

abbrev pub invariant-loop-part : goal.invariant-loop-part
invariant-loop-part l = record {
  count : length l.copy ≡ length l.heard;
  done : (k : ℕ) → k < l.part → slice_get l.copy k ≡ slice_get l.heard k;
  left : (k : ℕ) → l.part ≤ k → k < length l.heard → slice_get l.copy k ≡ Some None;
}
