use Rattle.station_changes.proofs.ArrangeLemmas.{same_answer}
use Rattle.station_changes.proofs.laws.order_does_not_matter.Goals as goal

pub returns : goal.returns
returns c d e a op other v w answer o is = same_answer d e a op other v w o is answer
