-- Lines of an input that are stepped together.
use Rattle.std.specs.Prelude.{◌≡◌, ◌+◌, ◌++◌, ◌∷◌, ⊤, ℕ, false, List, [], length, Option, Some, None}
use Rattle.station_graph.specs.Diagram.{Diagram}
use Rattle.central_rules.specs.Meaning.{Meaning}
use Rattle.bay_protocol.specs.State.{State, kept_of}
use Rattle.node_session.specs.Requests.{IsRequest}
use Rattle.node_session.specs.declared.request.LineTrouble.{LineTrouble}
use Rattle.node_session.specs.declared.request.LineTrouble.TheVariants.{Memory, Refused}
use Rattle.stored_session.specs.Holding.{HoldsLines}
use Rattle.stored_session.specs.Stored.{AnswersStored, StoredSession}
use Rattle.stored_session.specs.declared.batch.Batch.{Batch}

-- One line more is stepped, and the batch has its text and the record after it.
pub record AddsLine (m : Meaning) (d : Diagram) (b : ℕ) (old : State) (line : List ℕ) (new : State)
    (before after : Batch) : Type 0 where
  pub text : List ℕ
  pub answers : AnswersStored m d b old line text new
  pub text_is : after.text ≡ before.text ++ text
  pub kept_is : after.kept ≡ kept_of new
  pub count_is : after.count ≡ before.count + 1
  pub stop_is : after.stop ≡ before.stop

-- The first lines of what is held are stepped, from the old state to this one: these are their texts, the record after
-- them and their number, and these bytes follow them.
pub record StepsLines (m : Meaning) (d : Diagram) (b : ℕ) (old : State) (held : List ℕ) (state : State)
    (past : List ℕ) (batch : Batch) : Type 0 where
  pub lines : List (List ℕ)
  pub cut : HoldsLines held lines past
  pub session : StoredSession m d b old lines batch.text state
  pub kept_is : batch.kept ≡ kept_of state
  pub counted : length lines ≡ batch.count

-- What is so of the line behind those that were stepped: none was tried, and the node and what is held are as they are
-- after the lines; it is refused; memory was wanting.
abbrev pub StopsSo : Diagram → ℕ → State → List ℕ → State → List ℕ → Option LineTrouble → Type 0
StopsSo d b state past new held None = (new ≡ state) × (held ≡ past)
StopsSo d b state past new held (Some Refused) =
    (line : List ℕ) × (rest : List ℕ) × HoldsLines past (line ∷ []) rest × ¬ IsRequest d b false line
StopsSo d b state past new held (Some Memory) = ⊤

-- So a batch was stepped.
pub record StepsHeld (m : Meaning) (d : Diagram) (b : ℕ) (old : State) (held : List ℕ) (new : State)
    (held_new : List ℕ) (batch : Batch) : Type 0 where
  pub state : State
  pub past : List ℕ
  pub steps : StepsLines m d b old held state past batch
  pub stop : StopsSo d b state past new held_new batch.stop
