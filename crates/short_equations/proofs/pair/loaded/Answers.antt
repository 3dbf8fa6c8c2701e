use Rattle.short_equations.proofs.OtherNodes.{loaded_means}
use Rattle.short_equations.proofs.pair.loaded.Goals as goal

pub returns-clause-means : goal.returns-clause-means
returns-clause-means c =
    loaded_means _ _ _ _ _ c.args.edges.now c.args.first.0 c.args.second.0 c.in_ok-joined.joined c.in_ok-a.a c.in_ok-b.b
    c.in_ok-tapped.tapped c.in_ok-term.term c.in_ok-a.ensures.grew c.in_ok-b.ensures.grew c.in_ok-tapped.ensures.grew
    c.in_ok-term.ensures.grew c.in_ok-joined.ensures.means c.in_ok-a.ensures.means c.in_ok-b.ensures.means
    c.in_ok-tapped.ensures.means c.in_ok-term.ensures.means
