use Rattle.std.proofs.Common.{Some, ap, ◌∙◌}
use Rattle.judge_pool.proofs.pool.Pool.keep_list.Goals as goal

pub returns-in-Some-clause-kept : goal.returns-in-Some-clause-kept
returns-in-Some-clause-kept c =
    c.in-Some.ensures c.args.self.now c.requires.numbers ∙ ap Some c.in_ok-key.ensures.items

pub returns-in_ok-place-in-None-clause-kept : goal.returns-in_ok-place-in-None-clause-kept
returns-in_ok-place-in-None-clause-kept c = c.in_ok-place-in-None.ensures.kept ∙ ap Some c.in_ok-key.ensures.items
