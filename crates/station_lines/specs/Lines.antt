-- The station as it was read, in lines: what each element of the drawing gives, in document order.
use Rattle.std.specs.Prelude.{◌≡◌, ℕ, Bool, true, false, List, [], ◌∷◌, ◌++◌, map, filter, slice_index_or, Option, Some}
use Rattle.std.specs.Prelude.{None}
use Rattle.std.specs.Prelude.{if◌then◌else◌, codes}
use Rattle.std.specs.List.{flat_map}
use Rattle.std.specs.Option.{unwrap_or}
use Rattle.ilk_base.specs.declared.words.Kind.{Kind}
use Rattle.ilk_base.specs.declared.words.Kind.TheVariants.{Breaker, Disconnector, Earthing, Infeed}
use Rattle.ilk_base.specs.declared.words.NodeId.{NodeId}
use Rattle.ssd_read.specs.declared.role.Role.TheVariants.{PowerTransformer}
use Rattle.ssd_read.specs.Elements.{Element, element_at, attribute_value, same_role}
use Rattle.ssd_read.specs.Names.{is_good_name, is_node}
use Rattle.ssd_read.specs.Steps.{Step, a_part, a_node, a_switch, a_link, a_tap, naming_step, item_steps_at}
use Rattle.ssd_read.specs.Laws.{path_of, numbers_of}
use Rattle.station_lines.specs.Rows.{Row, text_of}

-- The paths of the nodes of a drawing, by their numbers.
abbrev pub nodes_of : List Element → List (List ℕ)
nodes_of all = map path_of (filter is_node all)

-- A word as it is shown: itself, or a dash where it is empty or holds a control character.
abbrev pub shown_word : List ℕ → List ℕ
shown_word word = if is_good_name word then word else codes "-"

-- The type of equipment as it is shown; that of a transformer is `PTR`.
abbrev pub type_word : Element → List ℕ
type_word x =
    if same_role x.role PowerTransformer then codes "PTR"
    else shown_word (unwrap_or (attribute_value x.entry (codes "type")) [])

-- What the text calls a switch of this kind.
abbrev pub kind_word : Kind → List ℕ
kind_word Breaker = codes "breaker"
kind_word Disconnector = codes "disconnector"
kind_word Earthing = codes "earthing"
kind_word Infeed = codes "infeed"

-- What the text calls a link that is a bond, and one that is none.
abbrev pub link_word : Bool → List ℕ
link_word true = codes "bond"
link_word false = codes "link"

-- The path of a node.
abbrev pub node_in : List (List ℕ) → ℕ → List ℕ
node_in nodes n = slice_index_or nodes n []

-- The path of the second end, where there is one.
abbrev pub second_in : List (List ℕ) → Option NodeId → List (List ℕ)
second_in nodes None = []
second_in nodes (Some n) = node_in nodes n.0 ∷ []

-- The line of what equipment of this type and path adds to the station, or of a part or a node.
abbrev pub step_row : List (List ℕ) → List ℕ → List ℕ → Step → Row
step_row nodes word path (a_part own) = codes "part" ∷ own ∷ []
step_row nodes word path (a_node own) = codes "node" ∷ own ∷ []
step_row nodes word path (a_switch name x) =
    kind_word x.kind ∷ path ∷ node_in nodes x.first.0 ∷ second_in nodes x.second
step_row nodes word path (a_link x) =
    link_word x.bond ∷ word ∷ path ∷ node_in nodes x.first.0 ∷ node_in nodes x.second.0 ∷ []
step_row nodes word path (a_tap x) = codes "tap" ∷ word ∷ path ∷ node_in nodes x.node.0 ∷ []

-- The lines of these steps.
abbrev pub step_rows : List (List ℕ) → List ℕ → List ℕ → List Step → List Row
step_rows nodes word path steps = map (step_row nodes word path) steps

-- The lines of the element at a place: of the part or node that it is, and then of what it gives.
abbrev pub rows_at : List Element → ℕ → List Row
rows_at all i =
    step_rows (nodes_of all) (type_word (element_at all i)) (element_at all i).path
    (naming_step (element_at all i) ++ item_steps_at all i)

-- The lines of all elements.
abbrev pub rows_of : List Element → List Row
rows_of all = flat_map (rows_at all) (numbers_of all)

-- The text of the lines of steps.
abbrev pub steps_text : List (List ℕ) → List ℕ → List ℕ → List Step → List ℕ
steps_text nodes word path steps = text_of (step_rows nodes word path steps)

-- What was written is the lines of these steps.
abbrev pub AddsSteps : List (List ℕ) → List ℕ → List ℕ → List Step → List ℕ → List ℕ → Type 0
AddsSteps nodes word path steps old new = new ≡ old ++ steps_text nodes word path steps
