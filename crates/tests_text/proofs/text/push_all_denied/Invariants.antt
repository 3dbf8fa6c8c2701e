use Rattle.std.proofs.Common.{◌≡◌, ◌++◌, take}
use Rattle.std.specs.List.{flat_map, zip}
use Rattle.path_names.specs.Tables.{paths_of}
use Rattle.tests_text.specs.TestsText.{denied_line}
use Rattle.tests_text.proofs.text.push_all_denied.Given as goal

abbrev pub invariant-loop-k : goal.invariant-loop-k
invariant-loop-k l = record {
  text : l.text.text ≡ l.fn.text.text ++ flat_map (λ p. denied_line l.station p.0 p.1) (take l.k (zip l.ops l.answers));
  names : l.text.names ≡ paths_of l.station;
  same : l.text.names ≡ l.fn.text.names;
}
