-- Where a session stands, and how one line of it goes.
use Rattle.std.specs.Prelude.{◌≡◌, ◌==◌, ◌≤◌, ◌<◌, ◌+◌, ◌++◌, ℕ, Bool, true, false, List, [], length, count_by, Option}
use Rattle.std.specs.Prelude.{Result, Ok, Err}
use Rattle.std.specs.Str.Lines.{lines}
use Rattle.std.specs.Io.KnownBytes.{Appends, Consumes}
use Rattle.ilk_base.specs.Outside.{AppendsFront}
use Rattle.station_graph.specs.Diagram.{Diagram}
use Rattle.central_rules.specs.Meaning.{Meaning}
use Rattle.bay_protocol.specs.State.{State, nothing_kept, resumed}
use Rattle.node_session.specs.declared.end.SessionEnd.{SessionEnd}
use Rattle.node_session.specs.declared.end.SessionEnd.TheVariants.{Refused, WriteFault, Memory}
use Rattle.node_session.specs.Requests.{IsRequest}
use Rattle.node_session.specs.Session.{AnswersWith, Session}
use Rattle.node_session.specs.SessionEnds.{Streams, SessionEnds, IsDone, LastAsked}
use Rattle.node_session.specs.Reading.{is_feed}

-- The line is answered, and its text written.
pub record AnswersLine (m : Meaning) (d : Diagram) (first : Bool) (old : State) (line : List ℕ) (new : State)
    (before after : Option (List ℕ)) : Type 0 where
  pub text : List ℕ
  pub answers : AnswersWith m d first old line text new
  pub wrote : Appends before after text

-- The text of the line was not written, or a front of it that is not all.
pub record TellsFront (m : Meaning) (d : Diagram) (first : Bool) (old : State) (line : List ℕ)
    (before after : Option (List ℕ)) : Type 0 where
  pub text : List ℕ
  pub new : State
  pub answers : AnswersWith m d first old line text new
  pub wrote : AppendsFront before after text

-- Why a line before which so many are answered is not answered.
abbrev pub LineFails : Meaning → Diagram → ℕ → State → List ℕ → Option (List ℕ) → Option (List ℕ) → Type 0 →
    SessionEnd → Type 0
LineFails m d count old line before after rose (Refused number) =
    (number ≡ count + 1) × (¬ IsRequest d old.bay (count == 0) line) × Appends before after []
LineFails m d count old line before after rose WriteFault = rose × TellsFront m d (count == 0) old line before after
LineFails m d count old line before after rose Memory = Appends before after []
LineFails m d count old line before after rose end = ⊥

-- Between two lines: so many are answered, the node is in this state, and these bytes of the input are held
-- that follow them.
pub record HasServed (m : Meaning) (d : Diagram) (b : ℕ) (before now : Streams) (held : List ℕ) (count : ℕ)
    (state : State) : Type 0 where
  pub taken : List ℕ
  pub done : List (List ℕ)
  pub text : List ℕ
  pub consumed : Consumes before.input now.input (taken ++ held)
  pub ends : (rest : List ℕ) → lines (taken ++ rest) ≡ done ++ lines rest
  pub feeds : count_by is_feed taken ≡ count
  pub bay : state.bay ≡ b
  pub counted : length done ≡ count
  pub session : Session m d true (resumed d b nothing_kept) done text state
  pub wrote : Appends before.out now.out text
  pub reads : before.reads ≤ now.reads
  pub writes : before.writes ≤ now.writes

-- Where anything was read, the last call of the input was needed.
abbrev pub HasAsked : Streams → Streams → List ℕ → ℕ → Type 0
HasAsked before now held count = 0 < count + length held → LastAsked before.input now.asked count

-- Both, of what was served and of what was asked for it.
pub record Stands (m : Meaning) (d : Diagram) (b : ℕ) (before now : Streams) (held : List ℕ) (count : ℕ)
    (state : State) : Type 0 where
  pub served : HasServed m d b before now held count state
  pub asked : HasAsked before now held count

-- How one more line goes: it is answered and little is held, or the session ends.
abbrev pub Goes : Meaning → Diagram → ℕ → Streams → Streams → List ℕ → ℕ → State → Result Bool SessionEnd → Type 0
Goes m d b before now held count state (Ok true) = Stands m d b before now held (count + 1) state
Goes m d b before now held count state (Ok false) = IsDone m d b before now
Goes m d b before now held count state (Err end) = SessionEnds m d b before now end
