use Rattle.contraction.specs.Answers.{Keeps}
use Rattle.contraction.specs.Stands.{Among}
use Rattle.contraction.proofs.SameLemmas.{gap_fewer, load_fewer}
use Rattle.contraction.proofs.laws.fewer_nodes_tell_less.Goals as goal

pub returns-clause-gap : goal.returns-clause-gap
returns-clause-gap c = λ items d v w kept fewer. gap_fewer (Keeps kept) (Keeps fewer) (Among items) d v w

pub returns-clause-load : goal.returns-clause-load
returns-clause-load c = λ items d v w kept fewer. load_fewer (Keeps kept) (Keeps fewer) (Among items) d v w
