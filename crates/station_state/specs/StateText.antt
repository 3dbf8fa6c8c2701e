-- The text of `state`: a line `VOLTAGE EARTH PATH` for each node, in document order.
use Rattle.std.specs.Prelude.{◌≡◌, ◌++◌, ℕ, List, [], ◌∷◌, codes}
use Rattle.ilk_base.specs.declared.words.Dbpos.{Dbpos}
use Rattle.station_graph.specs.Diagram.{Diagram}
use Rattle.station_state.specs.declared.certainty.Certainty.{Certainty}
use Rattle.station_state.specs.declared.certainty.Certainty.TheVariants.{Always, Never, Unknown}
use Rattle.station_state.specs.declared.certainty.NodeState.{NodeState}
use Rattle.station_state.specs.State.{AreStates}

-- What the text calls a node that is live in every reading, in none, or in one and not in another.
abbrev pub voltage_name : Certainty → List ℕ
voltage_name Always = codes "live"
voltage_name Never = codes "dead"
voltage_name Unknown = codes "unknown"

-- The same for a node that is earthed.
abbrev pub earth_name : Certainty → List ℕ
earth_name Always = codes "earthed"
earth_name Never = codes "free"
earth_name Unknown = codes "unknown"

-- The line of a node.
abbrev pub state_line : NodeState → List ℕ → List ℕ
state_line s path = voltage_name s.live ++ codes " " ++ earth_name s.earthed ++ codes " " ++ path ++ codes "\n"

-- The lines of these states, each with the path in its place.
abbrev pub state_lines : List NodeState → List (List ℕ) → List ℕ
state_lines [] paths = []
state_lines (s ∷ states) [] = []
state_lines (s ∷ states) (path ∷ paths) = state_line s path ++ state_lines states paths

-- The text shows the states of all nodes over every reading of the words.
abbrev pub IsStateText : Diagram → List Dbpos → List ℕ → Type 0
IsStateText d words text = (states : List NodeState) × AreStates d words states
    × (text ≡ state_lines states d.node_paths)
