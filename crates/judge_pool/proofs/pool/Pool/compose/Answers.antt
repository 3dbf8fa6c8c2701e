use Rattle.std.proofs.Common.{Some, subst, sym}
use Rattle.contraction.specs.Selecting.{Selected}
use Rattle.judge_pool.specs.declared.pool.Pool.{Pool}
use Rattle.judge_pool.specs.Pooling.{SelectsFor}
use Rattle.judge_pool.proofs.LayeringLemmas.{grew_more}
use Rattle.judge_pool.proofs.BatchLemmas.{selects_other, can_more}
use Rattle.judge_pool.proofs.pool.Pool.compose.Goals as goal

pub find_or_make-requires-clause-pool : goal.find_or_make-requires-clause-pool
find_or_make-requires-clause-pool c = c.in_ok-selection.ensures.grew.is_pool

pub find_or_make-requires-clause-fits : goal.find_or_make-requires-clause-fits
find_or_make-requires-clause-fits c =
    can_more c.args.self.now c.select.new.self c.args.key c.in_ok-selection.ensures.grew c.requires.fits

pub find_or_make-requires-clause-selection : goal.find_or_make-requires-clause-selection
find_or_make-requires-clause-selection c =
    subst (λ (s : Selected). SelectsFor c.select.new.self c.args.key s) (sym c.deref.ensures)
    c.in_ok-selection.ensures.selects

pub returns-clause-grew : goal.returns-clause-grew
returns-clause-grew c =
    let p = c.args.self.now in
    let held = c.select.new.self in
    let q = c.find_or_make.new.self in
    let g = c.in_ok-place.ensures.grew in
    let r : Pool = record q { selection = Some c.in_ok-selection.selection } in
    grew_more p q r (grew_more p held q c.in_ok-selection.ensures.grew g)
    (selects_other q (Some c.in_ok-selection.selection) g.is_pool)
