use Rattle.commissioning_tests.proofs.StuckLemmas.{finds_stuck}
use Rattle.commissioning_tests.proofs.laws.stuck_inputs_are_found.Goals as goal

pub returns : goal.returns
returns c = finds_stuck
