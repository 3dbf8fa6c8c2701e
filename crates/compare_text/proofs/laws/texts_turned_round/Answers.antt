use Rattle.compare_text.proofs.MirrorLemmas.{turned_round}
use Rattle.compare_text.proofs.BayMirrorLemmas.{bays_turned}
use Rattle.compare_text.proofs.laws.texts_turned_round.Goals as goal

pub returns-clause-lines : goal.returns-clause-lines
returns-clause-lines c o n one other old new x y = turned_round o n old new x.found y.found x.is y.is

pub returns-clause-bays : goal.returns-clause-bays
returns-clause-bays c o n one other old new x y = bays_turned o n old new x.text.bays y.text.bays x.text.are y.text.are
