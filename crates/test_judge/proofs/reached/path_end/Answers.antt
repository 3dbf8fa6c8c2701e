use Rattle.std.proofs.Common.{◌∙◌}
use Rattle.decision_graphs.proofs.SetLemmas.{length-AreAllowed, length-AreSetsOf}
use Rattle.test_judge.proofs.reached.path_end.Goals as goal

pub label_along-requires : goal.label_along-requires
label_along-requires c =
    let h = rw c.in-Some.is at c.in_ok-found.ensures in
    length-AreAllowed c.args.sets.now c.in-Some.path h.allows ∙ length-AreSetsOf c.args.graph.now.layers c.args.sets.now
    c.requires.sets
