-- The text of an explanation.
use Rattle.std.specs.Prelude.{◌≡◌, ◌<◌, ◌++◌, ◌==◌, ℕ, Bool, List, [], length, Option, Some, None, slice_get}
use Rattle.std.specs.Prelude.{codes, if◌then◌else◌}
use Rattle.std.specs.List.{flat_map}
use Rattle.ilk_base.specs.declared.words.Dbpos.{Dbpos}
use Rattle.ilk_base.specs.declared.words.Rule.{Rule}
use Rattle.ilk_base.specs.declared.words.Op.{Op}
use Rattle.ilk_base.specs.declared.words.SwitchId.{SwitchId}
use Rattle.station_graph.specs.Diagram.{Diagram, node_count, node_path, switch_path}
use Rattle.central_rules.specs.Names.{rule_name, direction_name, position_name, is_uncertain, texts_below}
use Rattle.denial_explain.specs.Ways.{AllBelow}
use Rattle.denial_explain.specs.declared.chain.Chain.{Chain}
use Rattle.denial_explain.specs.declared.explanation.Explanation.{Explanation}

-- `open PATH` or `close PATH`, and the end of the line.
abbrev pub operation : Diagram → Op → List ℕ
operation d op = direction_name op.direction ++ codes " " ++ switch_path d op.switch.0 ++ codes "\n"

-- The line `denied RULE open PATH`, or `close`.
abbrev pub denied_line : Diagram → Rule → Op → List ℕ
denied_line d rule op = codes "denied " ++ rule_name rule ++ codes " " ++ operation d op

-- Behind the head the line `off PATH` or `on PATH` of a switch whose word is neither off nor on: its
-- position in the reading.
abbrev pub position_line : List ℕ → Option Dbpos → Option Bool → List ℕ → List ℕ
position_line head (Some word) (Some closed) path =
    if is_uncertain word then head ++ position_name closed ++ codes " " ++ path ++ codes "\n" else []
position_line head (Some word) None path = []
position_line head None closed path = []

-- The line of switch i, where it has one: the moved switch has none.
abbrev pub position_at : List ℕ → ℕ → List Dbpos → List Bool → Diagram → ℕ → List ℕ
position_at head moved words v d i = if i == moved then [] else position_line head (slice_get words i) (slice_get v i)
    (switch_path d i)

-- A line for each other switch whose word is neither off nor on, in document order.
abbrev pub position_lines : List ℕ → ℕ → List Dbpos → List Bool → Diagram → List ℕ
position_lines head moved words v d = texts_below (position_at head moved words v d) (length d.switches)

-- A line `node PATH` for each node.
abbrev pub node_lines : Diagram → List ℕ → List ℕ
node_lines d nodes = flat_map (λ n. codes "node " ++ node_path d n ++ codes "\n") nodes

-- The line `by PATH`.
abbrev pub by_line : Diagram → Option SwitchId → List ℕ
by_line d (Some id) = codes "by " ++ switch_path d id.0 ++ codes "\n"
by_line d None = []

-- A head, and the lines of a chain.
abbrev pub chain_lines : Diagram → List ℕ → Chain → List ℕ
chain_lines d head c = head ++ node_lines d c.nodes ++ by_line d c.by

-- The line `earthed` and the chain's lines, where there is one.
abbrev pub earthed_lines : Diagram → Option Chain → List ℕ
earthed_lines d (Some c) = chain_lines d (codes "earthed\n") c
earthed_lines d None = []

-- The chain to a tap from each side, and the nodes that are bonded to the first.
abbrev pub load_lines : Diagram → Option (Chain × Chain) → List ℕ → List ℕ
load_lines d (Some (first, second)) bonded =
    chain_lines d (codes "tap\n") first ++ chain_lines d (codes "tap\n") second ++ codes "bonded\n"
    ++ node_lines d bonded
load_lines d None bonded = []

-- The whole text, with these words of all switches and this reading of them.
abbrev pub explanation_text : Diagram → List Dbpos → List Bool → Explanation → List ℕ
explanation_text d words v e =
    denied_line d e.rule e.op
    ++ position_lines (codes "with ") e.op.switch.0 words v d
    ++ chain_lines d (codes "live\n") e.live
    ++ earthed_lines d e.earthed
    ++ load_lines d e.taps e.bonded

-- The nodes of a chain are nodes of the station, and its switch is one of it.
pub record ChainFits (d : Diagram) (c : Chain) : Type 0 where
  pub nodes : AllBelow (node_count d) c.nodes
  pub by : (id : SwitchId) → c.by ≡ Some id → id.0 < length d.switches

-- What an explanation names is of the station.
pub record ExplanationFits (d : Diagram) (e : Explanation) : Type 0 where
  pub op : e.op.switch.0 < length d.switches
  pub live : ChainFits d e.live
  pub earthed : (c : Chain) → e.earthed ≡ Some c → ChainFits d c
  pub taps : (first second : Chain) → e.taps ≡ Some (first, second) → ChainFits d first × ChainFits d second
  pub bonded : AllBelow (node_count d) e.bonded
