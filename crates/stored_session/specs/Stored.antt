-- A session whose node keeps its record on a device: it writes what the steps show, and no record.
use Rattle.std.specs.Prelude.{◌≡◌, ◌≤◌, ◌++◌, ℕ, false, List, [], ◌∷◌, length, Option}
use Rattle.std.specs.Io.KnownBytes.{Appends}
use Rattle.ilk_base.specs.Outside.{AppendsFront}
use Rattle.station_graph.specs.Diagram.{Diagram}
use Rattle.central_rules.specs.Meaning.{Meaning}
use Rattle.bay_protocol.specs.declared.values.NodeOutput.{NodeOutput}
use Rattle.bay_protocol.specs.State.{State}
use Rattle.bay_protocol.specs.Step.{Turn, Step, TakeStep}
use Rattle.bay_protocol.specs.Output.{turn}
use Rattle.node_session.specs.declared.request.Request.{Request}
use Rattle.node_session.specs.declared.request.Request.TheVariants.{Resume, Event, Arrival}
use Rattle.node_session.specs.declared.request.TheConstants.{MOST_LINE}
use Rattle.node_session.specs.Requests.{Asks, IsRequest}
use Rattle.node_session.specs.StepText.{shown_text}
use Rattle.stored_session.specs.declared.line.LineEnd.{LineEnd}
use Rattle.stored_session.specs.declared.line.LineEnd.TheVariants.{Memory, Refused, StoreFailed, OutFailed}

-- What is asked is a step of the node, with this turn. No record is handed back: it stands on the device.
abbrev pub TakesTurn : Meaning → Diagram → State → Request → Turn → Type 0
TakesTurn m d old (Resume k) turn = ⊥
TakesTurn m d old (Event event) turn = Step m d old event turn
TakesTurn m d old (Arrival bytes) turn = TakeStep m d old bytes turn

-- The line asks a node of bay b for a step, with this turn.
pub record AsksTurn (m : Meaning) (d : Diagram) (b : ℕ) (old : State) (line : List ℕ) (turn : Turn) : Type 0 where
  pub short : length line ≤ MOST_LINE
  pub request : Request
  pub asks : Asks d b false line request
  pub takes : TakesTurn m d old request turn

-- The node of bay b answers one line: from the old state to the new, with the text of what the step shows and sends.
pub record AnswersStored (m : Meaning) (d : Diagram) (b : ℕ) (old : State)
    (line text : List ℕ) (new : State) : Type 0 where
  pub output : NodeOutput
  pub asked : AsksTurn m d b old line (turn new output)
  pub text_is : text ≡ shown_text d output

-- The node answers these lines, each with its text, and the texts after one another are this.
abbrev pub StoredSession : Meaning → Diagram → ℕ → State → List (List ℕ) → List ℕ → State → Type 0
StoredSession m d b old [] text new = (text ≡ []) × (new ≡ old)
StoredSession m d b old (line ∷ lines) text new =
    (answer : List ℕ) × (next : State) × AnswersStored m d b old line answer next
    × (rest : List ℕ) × StoredSession m d b next lines rest new × (text ≡ answer ++ rest)

-- The line is answered, and its text written.
pub record WritesLine (m : Meaning) (d : Diagram) (b : ℕ) (old : State)
    (line : List ℕ) (new : State) (before after : Option (List ℕ)) : Type 0 where
  pub text : List ℕ
  pub answers : AnswersStored m d b old line text new
  pub wrote : Appends before after text

-- The line is answered, and of its text a front is written that is not all.
pub record WritesFront (m : Meaning) (d : Diagram) (b : ℕ) (old : State)
    (line : List ℕ) (new : State) (before after : Option (List ℕ)) : Type 0 where
  pub text : List ℕ
  pub answers : AnswersStored m d b old line text new
  pub wrote : AppendsFront before after text

-- Why a line is not answered to its end, and what is written of it. Of `stores` and `writes`, the one is that the
-- device's count of writes and syncs rose, the other that the count of `out` did.
abbrev pub StoredLineFails : Meaning → Diagram → ℕ → State → List ℕ → State → Option (List ℕ) → Option (List ℕ)
    → Type 0 → Type 0 → LineEnd → Type 0
StoredLineFails m d b old line new before after stores writes Memory = Appends before after []
StoredLineFails m d b old line new before after stores writes Refused =
    (¬ IsRequest d b false line) × Appends before after []
StoredLineFails m d b old line new before after stores writes StoreFailed =
    stores × ((text : List ℕ) × AnswersStored m d b old line text new) × Appends before after []
StoredLineFails m d b old line new before after stores writes OutFailed =
    writes × WritesFront m d b old line new before after
