use Rattle.ssd_text.proofs.Whole.{one_reading}
use Rattle.ssd_text.proofs.laws.one_outcome.Goals as goal

pub returns : goal.returns
returns c = one_reading
