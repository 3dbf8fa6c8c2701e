use Rattle.std.proofs.Common.{◌≡◌}
use Rattle.interlock_terms.specs.Terms.{IsTrueAt}
use Rattle.short_equations.proofs.ItemEdgeLemmas.{ways_added}
use Rattle.short_equations.proofs.sights.add_mark.Goals as goal

pub returns-clause-adds : goal.returns-clause-adds
returns-clause-adds c =
    ways_added c.add_edge.new.terms c.args.edges.now.items c.add_edge.new.edges.items c.edge_to_mark.result
    (λ v a b. IsTrueAt v c.args.term × ((a ≡ c.args.node.0) × (b ≡ c.args.mark.0)))
    (λ v a b solves. c.edge_to_mark.ensures.leads v a b) c.in_ok-add_edge.ensures.adds
