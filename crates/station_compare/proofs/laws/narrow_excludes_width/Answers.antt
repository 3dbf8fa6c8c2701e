use Rattle.station_compare.proofs.NarrowLemmas.{narrow_excludes, one_first}
use Rattle.station_compare.proofs.laws.narrow_excludes_width.Goals as goal

pub returns-clause-switch : goal.returns-clause-switch
returns-clause-switch c o n orders bay k narrow wide = narrow_excludes o n orders bay k narrow wide

pub returns-clause-first : goal.returns-clause-first
returns-clause-first c o n orders bay other first second = one_first o n orders bay other first second
