use Rattle.equation_audit.proofs.OneOutcome.{blocks_not_refused}
use Rattle.equation_audit.proofs.laws.one_outcome.Goals as goal

pub returns : goal.returns
returns c = λ d bytes es refusal differ blocks fault. blocks_not_refused d differ bytes es refusal blocks fault
