use Rattle.std.proofs.Common.{◌≡◌, ℕ, ◌<◌, length, true, false, get_or}
use Rattle.drawing_remarks.proofs.facts.all_closed.Given as goal

abbrev pub invariant-loop-i : goal.invariant-loop-i
invariant-loop-i l = record {
  len : length l.vector ≡ length l.station.switches;
  closed : (k : ℕ) → k < l.i → get_or l.vector k false ≡ true;
}
