use Rattle.std.proofs.Common.{length, subst}
use Rattle.short_equations.specs.Edges.{AddsThrough}
use Rattle.short_equations.proofs.EliminateLemmas.{eliminates}
use Rattle.short_equations.proofs.elimination.eliminate.Goals as goal

pub returns-clause-eliminates : goal.returns-clause-eliminates
returns-clause-eliminates c =
    let terms = c.add_through.new.terms in
    let left = c.in_ok-left.left.items in
    let ways = c.in_ok-from_node.from_node.items in
    let new = c.add_through.new.edges.items in
    let adds : AddsThrough terms left ways (length ways) new =
    subst (λ ws. AddsThrough terms left ws (length ws) new) c.deref.ensures.value c.in_ok-add_through.ensures.adds in
    eliminates terms c.args.node.0 c.requires.node c.args.edges.now left new ways c.requires.edges
    c.in_ok-left.ensures.exact c.in_ok-from_node.ensures adds
