-- The lines of a way, with what joins its nodes.
use Rattle.std.specs.Prelude.{◌≡◌, ◌<◌, ◌++◌, ℕ, zero, suc, Bool, List, [], length, slice_get, slice_index}
use Rattle.std.specs.Prelude.{slice_index_or, Option, Some, None, codes}
use Rattle.std.specs.List.{flat_map}
use Rattle.station_graph.specs.declared.items.Link.{Link as LinkItem}
use Rattle.station_graph.specs.Diagram.{Diagram, node_path, switch_path}
use Rattle.denial_explain.specs.ExplanationText.{by_line}
use Rattle.denial_explain.specs.declared.chain.Chain.{Chain}
use Rattle.why_text.specs.Devices.{IsDevice}
use Rattle.why_text.specs.declared.device.Device.{Device}
use Rattle.why_text.specs.declared.device.Device.TheVariants.{Closed, Link, Open}

-- The path of the part of a link.
abbrev pub part_path : Diagram → Option LinkItem → List ℕ
part_path d None = []
part_path d (Some x) = slice_index_or d.part_paths x.part.0 []

-- The line `over PATH` of a closed switch, `over open PATH` of an open breaker, and of a link `over link PATH` with the
-- path of its part, since a link has none.
abbrev pub device_line : Diagram → Device → List ℕ
device_line d (Closed id) = codes "over " ++ switch_path d id.0 ++ codes "\n"
device_line d (Link i) = codes "over link " ++ part_path d (slice_get d.links i) ++ codes "\n"
device_line d (Open id) = codes "over open " ++ switch_path d id.0 ++ codes "\n"

-- The line `node PATH`.
abbrev pub node_line : Diagram → ℕ → List ℕ
node_line d n = codes "node " ++ node_path d n ++ codes "\n"

-- The line of node i of the way; before it, but for the first node, the line of what joins it to the node before.
abbrev pub IsStepText : Diagram → List Bool → List Bool → List ℕ → ℕ → List ℕ → Type 0
IsStepText d v counted nodes zero text = text ≡ node_line d (slice_index nodes zero)
IsStepText d v counted nodes (suc i) text =
    (x : Device) × IsDevice d v counted (slice_index nodes i) (slice_index nodes (suc i)) x
    × (text ≡ device_line d x ++ node_line d (slice_index nodes (suc i)))

-- These are the lines of the first n nodes of the way, and this is their text.
pub record AreSteps (n : ℕ) (d : Diagram) (v counted : List Bool) (nodes : List ℕ) (lines : List (List ℕ))
    (text : List ℕ) : Type 0 where
  pub count : length lines ≡ n
  pub each : (i : ℕ) → i < n → IsStepText d v counted nodes i (slice_index_or lines i [])
  pub text_is : text ≡ flat_map (λ l. l) lines

-- The lines of all nodes of the way.
abbrev pub AreWayLines : Diagram → List Bool → List Bool → List ℕ → List ℕ → Type 0
AreWayLines d v counted nodes text = (lines : List (List ℕ)) × AreSteps (length nodes) d v counted nodes lines text

-- A head, the lines of a chain's nodes with what joins them, and the line of its switch.
pub record IsChainText (d : Diagram) (v counted : List Bool) (head : List ℕ) (c : Chain) (text : List ℕ) : Type 0 where
  pub way : List ℕ
  pub way_is : AreWayLines d v counted c.nodes way
  pub text_is : text ≡ head ++ way ++ by_line d c.by
