use Rattle.contraction.specs.Stands.{Among}
use Rattle.contraction.proofs.LawLemmas.{gap_stands, load_stands}
use Rattle.contraction.proofs.laws.same_views_stand.Goals as goal

pub returns-clause-gap : goal.returns-clause-gap
returns-clause-gap c = λ items. gap_stands (Among items)

pub returns-clause-load : goal.returns-clause-load
returns-clause-load c = λ items. load_stands (Among items)
