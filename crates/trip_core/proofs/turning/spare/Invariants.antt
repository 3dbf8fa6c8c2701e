use Rattle.std.proofs.Common.{◌≡◌, [], length, get_or}
use Rattle.trip_core.proofs.turning.spare.Given as goal

abbrev pub invariant-loop : goal.invariant-loop
invariant-loop l = record {
  count : length l.lists.items ≡ l.counter;
  first : get_or l.lists.items 0 [] ≡ l.fn.own;
}
