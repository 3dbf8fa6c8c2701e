use Rattle.std.proofs.Common.{◌≡◌, slice_get, Some, ap, ◌∙◌}
use Rattle.judge_pool.specs.declared.pool.Pool.{Pool}
use Rattle.judge_pool.proofs.LayeringLemmas.{grew_more}
use Rattle.judge_pool.proofs.BatchLemmas.{numbers_other}
use Rattle.judge_pool.proofs.pool.Pool.new_keep.Goals as goal

pub returns-clause-kept : goal.returns-clause-kept
returns-clause-kept c =
    c.in_ok-place.ensures.kept ∙ ap Some (c.in_ok-list.ensures ∙ c.deref.ensures.value)

pub returns-clause-grew : goal.returns-clause-grew
returns-clause-grew c =
    let p = c.args.self.now in
    let q = c.put_keep.new.self in
    let g = c.in_ok-place.ensures.grew in
    let r : Pool = record q { keep_numbers = c.note_keep.new.numbers } in
    let at : slice_get q.keeps.items c.in_ok-place.place ≡ Some c.args.nodes.items = returns-clause-kept c in
    grew_more p q r g (numbers_other q r g.is_pool (c.in_ok-note_keep.ensures q g.is_pool.numbers at))
