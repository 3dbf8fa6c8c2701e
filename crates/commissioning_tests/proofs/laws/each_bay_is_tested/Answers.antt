use Rattle.commissioning_tests.proofs.LeadLemmas.{each_tested}
use Rattle.commissioning_tests.proofs.laws.each_bay_is_tested.Goals as goal

pub returns : goal.returns
returns c = each_tested
