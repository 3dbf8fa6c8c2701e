use Rattle.std.proofs.Common.{◌≡◌, ◌++◌, take}
use Rattle.path_names.specs.Tables.{paths_of}
use Rattle.tests_text.specs.TestsText.{like_lines}
use Rattle.tests_text.proofs.station.push_like.Given as goal

abbrev pub invariant-loop-bay : goal.invariant-loop-bay
invariant-loop-bay l = record {
  text : l.text.text ≡ l.fn.text.text ++ like_lines l.station (take l.bay-index l.bays);
  names : l.text.names ≡ paths_of l.station;
  same : l.text.names ≡ l.fn.text.names;
}
