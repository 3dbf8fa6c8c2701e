use Rattle.std.proofs.Common.{◌∙◌}
use Rattle.interlock_cli.proofs.tests_command.all_text.Goals as goal

pub station_tests_text-requires : goal.station_tests_text-requires
station_tests_text-requires c =
    c.station_tests_fit.ensures c.args.station.now c.args.tests.now c.requires.are

pub returns : goal.returns
returns c = record {
  tests = c.args.tests.now;
  are = c.requires;
  lines = c.in_ok-text.ensures ∙ c.in_ok-lines.ensures;
}
