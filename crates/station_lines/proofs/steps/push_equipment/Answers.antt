use Rattle.std.proofs.Common.{◌≡◌, ℕ, List, [], Option, Some, None, ap, ◌∙◌, sym, subst}
use Rattle.std.specs.Option.{option_map, unwrap_or}
use Rattle.std.specs.Prelude.{codes}
use Rattle.std.specs.String.{string_bytes}
use Rattle.std.proofs.lemmas.Result.{on_ok_weaker}
use Rattle.station_graph.specs.Diagram.{Diagram}
use Rattle.ssd_read.specs.declared.role.Role.{Role}
use Rattle.ssd_read.specs.declared.role.Role.TheVariants.{ConductingEquipment}
use Rattle.ssd_read.specs.Elements.{Element, element_at, attribute_value}
use Rattle.ssd_read.specs.Types.{type_of}
use Rattle.ssd_read.specs.Ends.{ends_of, nodes_at, use_of}
use Rattle.ssd_read.specs.Steps.{part_of, use_steps}
use Rattle.ssd_read.specs.Seen.{AreNodes}
use Rattle.station_lines.specs.Lines.{shown_word}
use Rattle.station_lines.proofs.NodeLemmas.{nodes_are, own_nodes}
use Rattle.station_lines.proofs.ItemLemmas.{equipment_steps, equipment_word, same_adds}
use Rattle.station_lines.proofs.steps.push_equipment.Goals as goal

pub push_use-requires : goal.push_use-requires
push_use-requires c =
    let all : List Element = c.args.whole.now in
    let d : Diagram = c.station-station.result.now in
    subst (AreNodes d) (sym (c.deref.ensures.value ∙ (c.in_ok-nodes.ensures ∙ ap nodes_at c.ends.ensures)))
    (own_nodes all c.args.i d c.station-station.ensures.stands)

pub push_use-requires-in-None : goal.push_use-requires-in-None
push_use-requires-in-None c =
    let all : List Element = c.args.whole.now in
    let d : Diagram = c.station-station.result.now in
    subst (AreNodes d) (sym (c.deref-in-None.ensures.value ∙ (c.in_ok-nodes.ensures ∙ ap nodes_at c.ends.ensures)))
    (own_nodes all c.args.i d c.station-station.ensures.stands)

pub returns-in-Some : goal.returns-in-Some
returns-in-Some c =
    let all : List Element = c.args.whole.now in
    let i : ℕ = c.args.i in
    let x : Element = element_at all i in
    let d : Diagram = c.station-station.result.now in
    let same : c.drawing-drawing.result.now ≡ all = c.drawing-drawing.ensures.elements in
    let role : x.role ≡ ConductingEquipment = c.requires.role in
    let kind : c.kind-kind.result ≡ type_of x.entry =
    c.kind-kind.ensures ∙ ap (λ (xs : List Element). type_of (element_at xs i).entry) same in
    let attr : option_map string_bytes c.in_ok-word.field-0 ≡ attribute_value x.entry (codes "type") =
    c.in_ok-word.ensures
    ∙ ap (λ (xs : List Element). attribute_value (element_at xs i).entry (codes "type")) same in
    let word = c.shown_word-word.ensures
    ∙ (ap shown_word (c.as_bytes.ensures.value ∙ c.as_str.ensures.value)
    ∙ equipment_word x (Some (string_bytes c.in-Some.word)) role
    (ap (option_map string_bytes) (sym c.in-Some.is) ∙ attr)) in
    let path = c.as_bytes-path.ensures.value
    ∙ (c.path.ensures ∙ ap (λ (xs : List Element). (element_at xs i).path) same) in
    let steps = ap (use_steps (use_of x.entry) x.entry (part_of all i x))
    (c.deref.ensures.value ∙ (c.in_ok-nodes.ensures ∙ ap nodes_at c.ends.ensures))
    ∙ sym (equipment_steps all i role) in
    on_ok_weaker c.push_use.result
    (same_adds c.args.text.now c.push_use.new.text (nodes_are all d c.station-station.ensures.stands) word path steps)
    (c.push_use.ensures x.entry (part_of all i x) kind)

pub returns : goal.returns
returns c =
    let all : List Element = c.args.whole.now in
    let i : ℕ = c.args.i in
    let x : Element = element_at all i in
    let d : Diagram = c.station-station.result.now in
    let same : c.drawing-drawing.result.now ≡ all = c.drawing-drawing.ensures.elements in
    let role : x.role ≡ ConductingEquipment = c.requires.role in
    let kind : c.kind-kind.result ≡ type_of x.entry =
    c.kind-kind.ensures ∙ ap (λ (xs : List Element). type_of (element_at xs i).entry) same in
    let attr : option_map string_bytes c.in_ok-word.field-0 ≡ attribute_value x.entry (codes "type") =
    c.in_ok-word.ensures
    ∙ ap (λ (xs : List Element). attribute_value (element_at xs i).entry (codes "type")) same in
    let word = equipment_word x None role (ap (option_map string_bytes) (sym c.in-None.is) ∙ attr) in
    let path = c.as_bytes-path.ensures.value
    ∙ (c.path.ensures ∙ ap (λ (xs : List Element). (element_at xs i).path) same) in
    let steps = ap (use_steps (use_of x.entry) x.entry (part_of all i x))
    (c.deref-in-None.ensures.value ∙ (c.in_ok-nodes.ensures ∙ ap nodes_at c.ends.ensures))
    ∙ sym (equipment_steps all i role) in
    on_ok_weaker c.push_use-in-None.result
    (same_adds c.args.text.now c.push_use-in-None.new.text (nodes_are all d c.station-station.ensures.stands) word path steps)
    (c.push_use-in-None.ensures x.entry (part_of all i x) kind)
