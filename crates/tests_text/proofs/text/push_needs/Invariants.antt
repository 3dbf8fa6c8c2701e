use Rattle.std.proofs.Common.{◌≡◌, ◌++◌, take}
use Rattle.path_names.specs.Tables.{paths_of}
use Rattle.tests_text.specs.TestsText.{needs_lines}
use Rattle.tests_text.proofs.text.push_needs.Given as goal

abbrev pub invariant-loop-id : goal.invariant-loop-id
invariant-loop-id l = record {
  text : l.text.text ≡ l.fn.text.text ++ needs_lines l.station (take l.id-index l.switches);
  names : l.text.names ≡ paths_of l.station;
  same : l.text.names ≡ l.fn.text.names;
}
