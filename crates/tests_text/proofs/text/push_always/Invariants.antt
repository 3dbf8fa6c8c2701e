use Rattle.std.proofs.Common.{◌≡◌, ◌++◌, take}
use Rattle.path_names.specs.Tables.{paths_of}
use Rattle.tests_text.specs.TestsText.{always_lines}
use Rattle.tests_text.proofs.text.push_always.Given as goal

abbrev pub invariant-loop-op : goal.invariant-loop-op
invariant-loop-op l = record {
  text : l.text.text ≡ l.fn.text.text ++ always_lines l.station (take l.op-index l.ops);
  names : l.text.names ≡ paths_of l.station;
  same : l.text.names ≡ l.fn.text.names;
}
