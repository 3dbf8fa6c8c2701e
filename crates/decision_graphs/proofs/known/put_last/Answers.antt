use Rattle.std.proofs.Common.{sym, subst}
use Rattle.decision_graphs.specs.Alone.{AreKnown, IsKnown}
use Rattle.decision_graphs.proofs.AloneLemmas.{all_more}
use Rattle.decision_graphs.proofs.known.put_last.Goals as goal

pub returns-in_err-push : goal.returns-in_err-push
returns-in_err-push c = subst AreKnown (sym c.in_err-push.ensures.items) c.requires.list

pub returns : goal.returns
returns c =
    subst AreKnown (sym c.in_ok-push.ensures.items)
    (all_more IsKnown c.args.list.now.layers.items c.args.known c.requires.list c.requires.known)
