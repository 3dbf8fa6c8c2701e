use Rattle.short_equations.proofs.ItemEdgeLemmas.{link_added}
use Rattle.short_equations.proofs.sights.add_link.Goals as goal

pub returns-in_ok-add_edge-clause-adds : goal.returns-in_ok-add_edge-clause-adds
returns-in_ok-add_edge-clause-adds c =
    link_added c.args.view c.always.new.self c.add_edge.new.terms c.args.edges.now.items c.add_edge.new.edges.items
    c.in_ok-term.term c.in_ok-add_edge.ensures.grew c.in_ok-term.ensures.means c.args.link c.edge_between.result
    (c.link_counts.ensures.0 c.if-link_counts.true) c.edge_between.ensures.leads c.in_ok-add_edge.ensures.adds
