use Rattle.std.proofs.Common.{Some, ap, ◌∙◌}
use Rattle.judge_pool.proofs.pool.Pool.keep.Goals as goal

pub returns-clause-kept : goal.returns-clause-kept
returns-clause-kept c = c.in_ok-place.ensures.kept ∙ ap Some c.numbers.ensures
