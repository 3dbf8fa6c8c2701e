use Rattle.std.proofs.Common.{◌≡◌, ℕ, List, ap, ◌∙◌, sym, subst}
use Rattle.std.proofs.lemmas.Result.{on_ok_weaker}
use Rattle.station_graph.specs.Diagram.{Diagram}
use Rattle.ssd_read.specs.declared.role.Role.TheVariants.{PowerTransformer}
use Rattle.ssd_read.specs.Elements.{Element, element_at}
use Rattle.ssd_read.specs.Ends.{nodes_at}
use Rattle.ssd_read.specs.Steps.{part_of, transformer_steps}
use Rattle.ssd_read.specs.Seen.{AreNodes}
use Rattle.station_lines.proofs.NodeLemmas.{nodes_are, winding_nodes}
use Rattle.station_lines.proofs.ItemLemmas.{transformer_steps_at, transformer_word, same_adds}
use Rattle.station_lines.proofs.steps.push_items.Goals as goal

pub push_transformer-requires : goal.push_transformer-requires
push_transformer-requires c =
    subst (AreNodes c.station.result.now)
    (sym (c.deref.ensures.value ∙ (c.in_ok-nodes-in-PowerTransformer.ensures ∙ ap nodes_at c.winding_ends.ensures)))
    (winding_nodes c.args.whole.now c.args.i c.station.result.now c.station.ensures.stands)

pub returns-in_ok-nodes-in-PowerTransformer : goal.returns-in_ok-nodes-in-PowerTransformer
returns-in_ok-nodes-in-PowerTransformer c =
    let all : List Element = c.args.whole.now in
    let i : ℕ = c.args.i in
    let x : Element = element_at all i in
    let d : Diagram = c.station.result.now in
    let same : c.drawing-drawing.result.now ≡ all = c.drawing-drawing.ensures.elements in
    let role : x.role ≡ PowerTransformer =
    sym (ap (λ (xs : List Element). (element_at xs i).role) same) ∙ (sym c.role.ensures ∙ c.in-PowerTransformer.is) in
    let path = c.as_bytes-path.ensures.value
    ∙ (c.path.ensures ∙ ap (λ (xs : List Element). (element_at xs i).path) same) in
    let steps = ap (transformer_steps (part_of all i x))
    (c.deref.ensures.value ∙ (c.in_ok-nodes-in-PowerTransformer.ensures ∙ ap nodes_at c.winding_ends.ensures))
    ∙ sym (transformer_steps_at all i role) in
    on_ok_weaker c.push_transformer.result
    (same_adds c.args.text.now c.push_transformer.new.text (nodes_are all d c.station.ensures.stands)
    (transformer_word x role) path steps) (c.push_transformer.ensures (part_of all i x))
