use Rattle.change_search.proofs.WidthLemmas.{excludes}
use Rattle.change_search.proofs.width.keeping_excludes_passing.Goals as goal

pub returns : goal.returns
returns c o n old_steps new_steps b i k limit old_all new_all len keep wide =
    excludes o n old_steps new_steps b i k limit old_all new_all len keep wide
