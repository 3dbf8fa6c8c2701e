use Rattle.short_equations.proofs.OtherNodes.{between_turned}
use Rattle.short_equations.proofs.pair.between.Goals as goal

pub returns-clause-means : goal.returns-clause-means
returns-clause-means c =
    between_turned _ c.args.edges.now c.args.first.0 c.args.second.0 c.requires.first c.requires.second
    c.in_ok-term-2.term c.in_ok-term-2.ensures.means
