-- A session: a node answers the lines of its input, one after another.
use Rattle.std.specs.Prelude.{◌≡◌, ◌++◌, ◌≤◌, ℕ, Bool, true, false, List, [], ◌∷◌, length}
use Rattle.station_graph.specs.Diagram.{Diagram}
use Rattle.central_rules.specs.Meaning.{Meaning}
use Rattle.bay_protocol.specs.declared.values.NodeOutput.{NodeOutput}
use Rattle.bay_protocol.specs.State.{State, kept_of, nothing_kept, resumed}
use Rattle.bay_protocol.specs.Step.{Turn, Step, TakeStep}
use Rattle.bay_protocol.specs.Output.{turn, IsKeep}
use Rattle.node_session.specs.declared.request.Request.{Request}
use Rattle.node_session.specs.declared.request.Request.TheVariants.{Resume, Event, Arrival}
use Rattle.node_session.specs.declared.request.TheConstants.{MOST_LINE}
use Rattle.node_session.specs.Requests.{Asks}
use Rattle.node_session.specs.StepText.{output_text}

-- A step of the node with this turn, and its text: the record where it changed, what the step shows, what it
-- sends.
pub record Tells (IsTurn : Turn → Type 0) (d : Diagram) (old : State) (text : List ℕ) (new : State) : Type 0 where
  pub output : NodeOutput
  pub is_turn : IsTurn (turn new output)
  pub changed : IsKeep (kept_of old) (kept_of new) output.keep
  pub text_is : text ≡ output_text d output

-- The node does what is asked, with this text. A record that is handed back is not written again.
abbrev pub Does : Meaning → Diagram → State → Request → List ℕ → State → Type 0
Does m d old (Resume k) text new = (new ≡ resumed d old.bay k) × (text ≡ [])
Does m d old (Event event) text new = Tells (Step m d old event) d old text new
Does m d old (Arrival bytes) text new = Tells (TakeStep m d old bytes) d old text new

-- The node answers one line: from the old state to the new, with this text.
pub record AnswersWith (m : Meaning) (d : Diagram) (first : Bool) (old : State) (line text : List ℕ)
    (new : State) : Type 0 where
  pub short : length line ≤ MOST_LINE
  pub request : Request
  pub asks : Asks d old.bay first line request
  pub does : Does m d old request text new

-- The node answers these lines, each with its text, and the texts after one another are this. Only the first
-- may be the first line of the input.
abbrev pub Session : Meaning → Diagram → Bool → State → List (List ℕ) → List ℕ → State → Type 0
Session m d first old [] text new = (text ≡ []) × (new ≡ old)
Session m d first old (line ∷ lines) text new =
    (answer : List ℕ) × (next : State) × AnswersWith m d first old line answer next
    × (rest : List ℕ) × Session m d false next lines rest new × (text ≡ answer ++ rest)

-- The node to which nothing has happened answers the lines of an input with this text.
abbrev pub IsSession : Meaning → Diagram → ℕ → List (List ℕ) → List ℕ → Type 0
IsSession m d b lines text = (last : State) × Session m d true (resumed d b nothing_kept) lines text last
