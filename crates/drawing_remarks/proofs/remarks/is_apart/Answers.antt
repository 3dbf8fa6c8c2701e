use Rattle.std.proofs.Common.{◌≡◌, ℕ, ◌<◌, List, ap, ◌∙◌, sym, subst}
use Rattle.station_graph.specs.Diagram.{node_count}
use Rattle.ssd_read.specs.declared.role.Role.{Role}
use Rattle.ssd_read.specs.declared.role.Role.TheVariants.{ConnectivityNode}
use Rattle.ssd_read.specs.Elements.{Element, element_at, same_role}
use Rattle.drawing_remarks.proofs.SaidLemmas.{number_in}
use Rattle.drawing_remarks.proofs.remarks.is_apart.Goals as goal

pub is_apart-requires-clause-node : goal.is_apart-requires-clause-node
is_apart-requires-clause-node c =
    let all : List Element = c.args.facts.now.whole.now in
    let i : ℕ = c.args.i in
    let role : (element_at all i).role ≡ ConnectivityNode =
    sym (c.role.ensures ∙ ap (λ (xs : List Element). (element_at xs i).role) c.drawing.ensures.elements)
    ∙ c.in-ConnectivityNode.is in
    subst (λ (n : ℕ). n < node_count c.args.facts.now.station.now) (sym c.requires.node)
    (number_in all c.args.facts.now.station.now i c.requires.facts.stands c.requires.within
    (ap (λ (r : Role). same_role r ConnectivityNode) role))
