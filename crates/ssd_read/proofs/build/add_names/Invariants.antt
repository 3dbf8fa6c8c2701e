use Rattle.std.proofs.Common.{◌≡◌, ◌<◌, ℕ, take, Ok, length, get_or}
use Rattle.std.specs.List.{flat_map}
use Rattle.station_graph.specs.Diagram.{empty}
use Rattle.ssd_read.specs.Steps.{built, naming_step, part_number}
use Rattle.ssd_read.proofs.build.add_names.Given as goal

abbrev pub invariant-loop-i : goal.invariant-loop-i
invariant-loop-i l = record {
  builds : built empty (flat_map naming_step (take l.i l.drawing)) ≡ Ok l.builder;
  count : length l.numbers.items ≡ l.i;
  numbers : (j : ℕ) → j < l.i → get_or l.numbers.items j 0 ≡ part_number l.drawing j;
}
