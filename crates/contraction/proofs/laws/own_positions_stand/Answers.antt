use Rattle.contraction.specs.Stands.{Among}
use Rattle.contraction.proofs.MoveLemmas.{gap_moves, load_moves}
use Rattle.contraction.proofs.laws.own_positions_stand.Goals as goal

pub returns-clause-gap : goal.returns-clause-gap
returns-clause-gap c = λ items d v w x same. gap_moves (Among items) d v w same x

pub returns-clause-load : goal.returns-clause-load
returns-clause-load c = λ items d v w x same. load_moves (Among items) d v w same x
