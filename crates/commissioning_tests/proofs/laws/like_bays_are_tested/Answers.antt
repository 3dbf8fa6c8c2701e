use Rattle.commissioning_tests.proofs.LikeLemmas.{like_tested}
use Rattle.commissioning_tests.proofs.laws.like_bays_are_tested.Goals as goal

pub returns : goal.returns
returns c = like_tested
