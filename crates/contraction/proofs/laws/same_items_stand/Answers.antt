use Rattle.contraction.specs.Stands.{Among}
use Rattle.contraction.proofs.ItemSets.{gap_over, load_over}
use Rattle.contraction.proofs.laws.same_items_stand.Goals as goal

pub returns-clause-gap : goal.returns-clause-gap
returns-clause-gap c = λ items others d v x same. gap_over (Among items) (Among others) d v x same

pub returns-clause-load : goal.returns-clause-load
returns-clause-load c = λ items others d v x same. load_over (Among items) (Among others) d v x same
