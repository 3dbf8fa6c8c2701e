-- What an element gives, by what it is.
use Rattle.std.proofs.Common.{◌≡◌, ℕ, List, [], ◌++◌, Option, cond, refl, ap, ◌∙◌, sym}
use Rattle.std.specs.Option.{unwrap_or}
use Rattle.std.specs.Prelude.{codes}
use Rattle.ssd_read.specs.declared.role.Role.{Role}
use Rattle.ssd_read.specs.declared.role.Role.TheVariants.{ConductingEquipment, PowerTransformer}
use Rattle.ssd_read.specs.Elements.{Element, element_at, same_role, attribute_value}
use Rattle.ssd_read.specs.Ends.{ends_of, nodes_at, use_of}
use Rattle.ssd_read.specs.Steps.{Step, part_of, use_steps, transformer_steps, winding_ends_of, item_steps_at}
use Rattle.station_lines.specs.Lines.{type_word, shown_word, steps_text, AddsSteps}

pub equipment_steps : (all : List Element) (i : ℕ) → (element_at all i).role ≡ ConductingEquipment →
    item_steps_at all i ≡ use_steps (use_of (element_at all i).entry) (element_at all i).entry
    (part_of all i (element_at all i)) (nodes_at (ends_of all i))
equipment_steps all i h =
    let own : List Step = use_steps (use_of (element_at all i).entry) (element_at all i).entry
    (part_of all i (element_at all i)) (nodes_at (ends_of all i)) in
    let windings : List Step = transformer_steps (part_of all i (element_at all i)) (nodes_at (winding_ends_of all i)) in
    ap (λ (r : Role). cond (same_role r ConductingEquipment) own (cond (same_role r PowerTransformer) windings [])) h

pub transformer_steps_at : (all : List Element) (i : ℕ) → (element_at all i).role ≡ PowerTransformer →
    item_steps_at all i ≡ transformer_steps (part_of all i (element_at all i)) (nodes_at (winding_ends_of all i))
transformer_steps_at all i h =
    let own : List Step = use_steps (use_of (element_at all i).entry) (element_at all i).entry
    (part_of all i (element_at all i)) (nodes_at (ends_of all i)) in
    let windings : List Step = transformer_steps (part_of all i (element_at all i)) (nodes_at (winding_ends_of all i)) in
    ap (λ (r : Role). cond (same_role r ConductingEquipment) own (cond (same_role r PowerTransformer) windings [])) h

pub equipment_word : (x : Element) (o : Option (List ℕ)) → x.role ≡ ConductingEquipment →
    o ≡ attribute_value x.entry (codes "type") → shown_word (unwrap_or o []) ≡ type_word x
equipment_word x o r h =
    ap (λ (p : Option (List ℕ)). shown_word (unwrap_or p [])) h
    ∙ sym (ap (λ (r : Role). cond (same_role r PowerTransformer) (codes "PTR")
    (shown_word (unwrap_or (attribute_value x.entry (codes "type")) []))) r)

pub transformer_word : (x : Element) → x.role ≡ PowerTransformer → codes "PTR" ≡ type_word x
transformer_word x r =
    sym (ap (λ (r : Role). cond (same_role r PowerTransformer) (codes "PTR")
    (shown_word (unwrap_or (attribute_value x.entry (codes "type")) []))) r)

pub same_adds : {nodes nodes' : List (List ℕ)} {word word' path path' : List ℕ} {ss ss' : List Step} (old new : List ℕ) →
    nodes ≡ nodes' → word ≡ word' → path ≡ path' → ss ≡ ss' → AddsSteps nodes word path ss old new →
    AddsSteps nodes' word' path' ss' old new
same_adds {nodes = nodes} {nodes' = nodes'} {word = word} {word' = word'} {path = path} {path' = path'} {ss = ss} {ss' = ss'} old new n w p s h =
    h ∙ (ap (λ (x : List (List ℕ)). old ++ steps_text x word path ss) n
    ∙ (ap (λ (x : List ℕ). old ++ steps_text nodes' x path ss) w
    ∙ (ap (λ (x : List ℕ). old ++ steps_text nodes' word' x ss) p
    ∙ ap (λ (x : List Step). old ++ steps_text nodes' word' path' x) s)))
