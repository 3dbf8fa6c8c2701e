use Rattle.tests_text.proofs.FittingLemmas.{station_fits}
use Rattle.tests_text.proofs.law.station_tests_fit.Goals as goal

pub returns : goal.returns
returns c = station_fits
