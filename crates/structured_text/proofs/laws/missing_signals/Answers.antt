use Rattle.structured_text.proofs.SideLemmas.{cautious}
use Rattle.structured_text.proofs.laws.missing_signals.Goals as goal

pub returns : goal.returns
returns c lines sided = cautious lines sided
