use Rattle.std.proofs.Common.{rules}
use Rattle.test_judge.proofs.ends.is_rule_by_ends.Goals as goal

pub ends_break-requires-clause-ends : goal.ends_break-requires-clause-ends
ends_break-requires-clause-ends c x moves = c.keeps_ends-kept.ensures.0 (search rules) x moves
