use Rattle.contraction.specs.Stands.{Among}
use Rattle.contraction.proofs.ViewLemmas.{gap_told, load_told}
use Rattle.contraction.proofs.laws.values_tell_views.Goals as goal

pub returns-clause-gap : goal.returns-clause-gap
returns-clause-gap c = λ items. gap_told (Among items)

pub returns-clause-load : goal.returns-clause-load
returns-clause-load c = λ items. load_told (Among items)
