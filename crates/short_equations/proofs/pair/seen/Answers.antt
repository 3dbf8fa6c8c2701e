use Rattle.short_equations.proofs.OtherNodes.{seen_means}
use Rattle.short_equations.proofs.pair.seen.Goals as goal

pub returns-clause-means : goal.returns-clause-means
returns-clause-means c =
    seen_means _ _ _ c.args.edges.now c.args.first.0 c.args.second.0 c.args.mark.0 c.in_ok-a.a c.in_ok-b.b
    c.in_ok-term.term c.in_ok-b.ensures.grew c.in_ok-term.ensures.grew c.in_ok-a.ensures.means c.in_ok-b.ensures.means
    c.in_ok-term.ensures.means
