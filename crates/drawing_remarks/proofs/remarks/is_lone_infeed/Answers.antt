use Rattle.std.proofs.Common.{ℕ, List, ap, ◌∙◌, sym}
use Rattle.std.specs.List.{slice_get}
use Rattle.ssd_read.specs.Elements.{Element}
use Rattle.ssd_read.specs.Ends.{nodes_at}
use Rattle.drawing_remarks.proofs.SaidLemmas.{first_node}
use Rattle.drawing_remarks.proofs.remarks.is_lone_infeed.Goals as goal

pub is_lone-requires-clause-node : goal.is_lone-requires-clause-node
is_lone-requires-clause-node c =
    let all : List Element = c.args.facts.now.whole.now in
    first_node all c.args.facts.now.station.now c.args.i c.in-Some.node c.requires.facts.stands
    (ap (λ (ns : List ℕ). slice_get ns 0)
    (sym (c.deref.ensures.value ∙ (c.in_ok-nodes.ensures ∙ ap nodes_at c.ends.ensures)))
    ∙ (sym c.first_of.ensures ∙ c.in-Some.is))
