use Rattle.tests_text.proofs.FittingLemmas.{tests_of_fit}
use Rattle.tests_text.proofs.law.tests_fit.Goals as goal

pub returns : goal.returns
returns c = tests_of_fit
