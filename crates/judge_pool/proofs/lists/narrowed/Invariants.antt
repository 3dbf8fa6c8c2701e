use Rattle.std.proofs.Common.{◌≡◌, ℕ, ◌<◌, length, get_or}
use Rattle.judge_pool.proofs.lists.narrowed.Given as goal

abbrev pub invariant-loop-c : goal.invariant-loop-c
invariant-loop-c l = record {
  len : length l.list.items ≡ length l.ids;
  each : (k : ℕ) → k < l.c → get_or l.list.items k 0 ≡ get_or l.ids k 0;
}
