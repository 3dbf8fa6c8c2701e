use Rattle.decision_graphs.specs.Reaching.{IsSet, set_at}
use Rattle.release_compile.proofs.SetsLemmas.{two_allowed}
use Rattle.release_compile.proofs.sets.allow_positions.Goals as goal

pub returns-clause-here : goal.returns-clause-here
returns-clause-here c k small =
    two_allowed (IsSet (set_at c.args.inner.now c.args.layer)) (IsSet (set_at c.allow_if.new.sets c.args.layer))
    (IsSet (set_at c.allow_if-2.new.sets c.args.layer)) c.args.word c.agrees-off.result c.agrees-on.result
    c.agrees-off.ensures c.agrees-on.ensures c.allow_if.ensures.here c.allow_if-2.ensures.here k small
