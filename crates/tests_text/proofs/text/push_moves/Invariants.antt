use Rattle.std.proofs.Common.{◌≡◌, ◌++◌, take}
use Rattle.std.specs.List.{flat_map}
use Rattle.path_names.specs.Tables.{paths_of}
use Rattle.tests_text.specs.TestsText.{move_lines}
use Rattle.tests_text.proofs.text.push_moves.Given as goal

abbrev pub invariant-loop-turn : goal.invariant-loop-turn
invariant-loop-turn l = record {
  text : l.text.text ≡ l.fn.text.text ++ flat_map (move_lines l.station l.ops l.position) (take l.turn-index l.position.moves.items);
  names : l.text.names ≡ paths_of l.station;
  same : l.text.names ≡ l.fn.text.names;
}
