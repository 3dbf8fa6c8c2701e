use Rattle.station_compare.proofs.MirrorLemmas.{word_back, part_back}
use Rattle.station_compare.proofs.laws.comparison_turned_round.Goals as goal

pub returns-clause-word : goal.returns-clause-word
returns-clause-word c = word_back

pub returns-clause-part : goal.returns-clause-part
returns-clause-part c = part_back
