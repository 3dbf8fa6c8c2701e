use Rattle.std.proofs.Common.{sym}
use Rattle.judge_pool.proofs.stands.find_stand.Goals as goal

pub returns-in-Some : goal.returns-in-Some
returns-in-Some c p right = right c.args.stand c.in-Some.id.now (sym c.in-Some.ensures.value)
