-- How a call ends: the cause of each end, and what `out` and `err` took. Said once, for all commands.
use Rattle.std.specs.Prelude.{◌≡◌, ◌⊎◌, ⊤, ℕ, List, [], Option, Some, None}
use Rattle.std.specs.Io.KnownBytes.{Appends, Keeps}
use Rattle.ilk_base.specs.Outside.{Rose, AppendsFront}
use Rattle.node_session.specs.SessionEnds.{Streams}
use Rattle.interlock_cli.specs.Formats.{Value}
use Rattle.interlock_cli.specs.Form.{Form, Write, Take, Serve, Given, FormSays, FormStops, AsksInput}
use Rattle.interlock_cli.specs.Serving.{EndsSession}
use Rattle.interlock_cli.specs.Commands.{Command, form_of}
use Rattle.interlock_cli.specs.Lines.{line_of, status_of}
use Rattle.interlock_cli.specs.declared.end.Outcome.{Outcome}
use Rattle.interlock_cli.specs.declared.end.Output.{Output}
use Rattle.interlock_cli.specs.declared.end.End.{End}
use Rattle.interlock_cli.specs.declared.end.End.TheVariants as e
use Rattle.interlock_cli.specs.declared.status.Status.{Status}

-- What a call finds outside and leaves there, where that is told.
pub record Call : Type 0 where
  -- what the files hold, by their names
  pub held : List ℕ → Option (List ℕ)
  -- the counts of faults of the files
  pub reads_before : List ℕ → ℕ
  pub reads_after : List ℕ → ℕ
  -- the input and `out`
  pub before : Streams
  pub after : Streams

-- A call by its parts: the files, their counts before and after, the streams before and after.
abbrev pub called : (List ℕ → Option (List ℕ)) → (List ℕ → ℕ) → (List ℕ → ℕ) → Streams → Streams → Call
called held reads_before reads_after before after = record {
  held = held;
  reads_before = reads_before;
  reads_after = reads_after;
  before = before;
  after = after;
}

-- `out` takes nothing before all is accepted; then the text, or after a fault of the write a front of it
-- that is not all.
abbrev pub FormEnds : Form → Call → End → Type 0
FormEnds form c (e.Written outcome) =
    (text : List ℕ) × FormSays form c.held outcome text × Appends c.before.out c.after.out text
FormEnds form c e.WriteFault =
    Rose c.before.writes c.after.writes × (outcome : Outcome) × (text : List ℕ) × FormSays form c.held outcome text
    × AppendsFront c.before.out c.after.out text
FormEnds form c e.Usage = ⊥
FormEnds form c end = FormStops form c.held c.reads_before c.reads_after end × Appends c.before.out c.after.out []

-- Nothing is asked of the input.
pub record Unasked (c : Call) : Type 0 where
  pub left : Keeps c.before.input c.after.input
  pub reads : c.after.reads ≡ c.before.reads

-- All that the form names is accepted, and the input is served so.
abbrev pub Serves : Form → Call → End → Type 0
Serves (Write writes) c end = ⊥
Serves (Serve d b) c end = EndsSession d b c.before c.after end
Serves (Take origin f next) c end = (value : Value f) × Given c.held origin f value × Serves (next value) c end

-- The words name a command that asks for the input.
abbrev pub CommandAsks : Option Command → Type 0
CommandAsks None = ⊥
CommandAsks (Some command) = AsksInput (form_of command)

-- The words are not read as a command: they name none, or for memory.
abbrev pub WordsUnread : Option Command → End → Type 0
WordsUnread command e.Usage = command ≡ None
WordsUnread command e.Memory = ⊤
WordsUnread command _ = ⊥

-- Words that name no command are Usage, and no others, or want memory.
abbrev pub Ends : Option Command → Call → End → Type 0
Ends None c end = WordsUnread None end × Appends c.before.out c.after.out []
Ends (Some command) c end = (FormEnds (form_of command) c end × Unasked c) ⊎ Serves (form_of command) c end

-- What is to be written was written, or a front of it where the count rose.
abbrev pub Wrote : Output → ℕ → ℕ → Option (List ℕ) → Option (List ℕ) → End → Type 0
Wrote output before after old new (e.Written outcome) = (outcome ≡ output.outcome) × Appends old new output.text
Wrote output before after old new e.WriteFault = Rose before after × AppendsFront old new output.text
Wrote output before after old new _ = ⊥

-- The line was written, or a front of it where the count rose.
abbrev pub WroteLine : Option (List ℕ) → Option (List ℕ) → ℕ → ℕ → List ℕ → Type 0
WroteLine old new before after line = Appends old new line ⊎ (Rose before after × AppendsFront old new line)

-- The call answers the status of an end that has its cause, and the line of this end went to `err`.
pub record AnswersCall (status : Status) (command : Option Command) (c : Call) (err_old err_new : Option (List ℕ))
    (err_before err_after : ℕ) : Type 0 where
  pub end : End
  pub status_is : status ≡ status_of end
  pub ends : Ends command c end
  pub line : WroteLine err_old err_new err_before err_after (line_of end)
