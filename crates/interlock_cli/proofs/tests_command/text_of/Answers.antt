use Rattle.std.proofs.Common.{◌∙◌}
use Rattle.interlock_cli.proofs.tests_command.text_of.Goals as goal

pub tests_text-requires-clause-fits : goal.tests_text-requires-clause-fits
tests_text-requires-clause-fits c =
    c.tests_fit.ensures c.args.station.now c.args.bay.0 c.args.tests.now c.requires.tests

pub returns : goal.returns
returns c = record {
  tests = c.args.tests.now;
  are = c.requires.tests;
  narrow = c.requires.narrow;
  lines = c.in_ok-text.ensures ∙ c.in_ok-lines.ensures;
}
