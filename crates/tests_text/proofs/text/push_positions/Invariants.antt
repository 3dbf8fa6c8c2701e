use Rattle.std.proofs.Common.{◌≡◌, ◌++◌, take}
use Rattle.std.specs.List.{flat_map, enumerate_from}
use Rattle.path_names.specs.Tables.{paths_of}
use Rattle.tests_text.specs.TestsText.{position_lines}
use Rattle.tests_text.proofs.text.push_positions.Given as goal

abbrev pub invariant-loop-i : goal.invariant-loop-i
invariant-loop-i l = record {
  text : l.text.text ≡ l.fn.text.text ++ flat_map (λ p. position_lines l.station l.ops p.0 p.1) (take l.i (enumerate_from 1 l.positions));
  names : l.text.names ≡ paths_of l.station;
  same : l.text.names ≡ l.fn.text.names;
}
