use Rattle.station_make.proofs.WordLemmas.{found}
use Rattle.station_make.proofs.words.feeders_named.Goals as goal

pub returns-in-Some-clause-value : goal.returns-in-Some-clause-value
returns-in-Some-clause-value c = found c.args.word.now _ c.in-Some.ensures.some c.in-Some.ensures.none

pub returns-in-None-clause-value : goal.returns-in-None-clause-value
returns-in-None-clause-value c = found c.args.word.now _ c.in-None.ensures.some c.in-None.ensures.none
