use Rattle.std.proofs.Common.{◌≡◌, take}
use Rattle.path_names.specs.Tables.{paths_of}
use Rattle.tests_text.specs.TestsText.{station_lines}
use Rattle.tests_text.proofs.station.station_tests_text.Given as goal

abbrev pub invariant-loop-shared : goal.invariant-loop-shared
invariant-loop-shared l = record {
  text : l.text.text ≡ station_lines l.station (take l.shared-index l.tests);
  names : l.text.names ≡ paths_of l.station;
}
