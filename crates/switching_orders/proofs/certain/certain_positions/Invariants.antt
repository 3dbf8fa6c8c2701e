use Rattle.std.proofs.Common.{◌≡◌, length, take}
use Rattle.std.specs.Prelude.{map}
use Rattle.switching_orders.specs.Certain.{word_at}
use Rattle.switching_orders.proofs.certain.certain_positions.Given as goal

abbrev pub invariant-loop-i : goal.invariant-loop-i
invariant-loop-i l =
    record {
      count : length l.vector ≡ length l.station.switches;
      same : take l.i l.readings ≡ map word_at (take l.i l.vector);
    }
