use Rattle.short_equations.proofs.ItemEdgeLemmas.{ends_added}
use Rattle.short_equations.proofs.sights.add_ends.Goals as goal

pub returns-in_ok-add_edge-clause-adds : goal.returns-in_ok-add_edge-clause-adds
returns-in_ok-add_edge-clause-adds c =
    ends_added c.add_edge.new.terms c.args.edges.now.items c.add_edge.new.edges.items c.args.switch
    c.in-Some.second c.args.term c.edge_between.result c.in-Some.is c.edge_between.ensures.leads
    c.in_ok-add_edge.ensures.adds
