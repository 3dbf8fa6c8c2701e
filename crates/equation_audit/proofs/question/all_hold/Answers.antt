use Rattle.equation_audit.proofs.OwnLemmas.{named_at}
use Rattle.equation_audit.proofs.question.all_hold.Goals as goal

pub holds-requires : goal.holds-requires
holds-requires c = c.requires _ (named_at c.args.conditions.now c.loop-condition.condition-index _
    c.loop-condition-test.true)
