use Rattle.central_rules.proofs.AlikeLaw.{same_answers}
use Rattle.central_rules.proofs.alike.alike_positions.Goals as goal

pub returns : goal.returns
returns c = same_answers
