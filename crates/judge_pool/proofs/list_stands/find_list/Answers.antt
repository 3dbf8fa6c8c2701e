use Rattle.std.proofs.Common.{sym}
use Rattle.judge_pool.proofs.list_stands.find_list.Goals as goal

pub returns-in-Some : goal.returns-in-Some
returns-in-Some c p right = right c.args.stand c.in-Some.number.now (sym c.in-Some.ensures.value)
