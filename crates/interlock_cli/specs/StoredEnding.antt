-- How a call ends that runs a stored session: the cause of each end, what `out` and `err` took, and what a crash may
-- leave on the device.
use Rattle.std.specs.Prelude.{◌≡◌, ◌⊎◌, ℕ, List, [], Option, Some, None}
use Rattle.std.specs.Io.KnownBytes.{Appends}
use Rattle.ilk_base.specs.Outside.{Rose}
use Rattle.station_graph.specs.Diagram.{Diagram}
use Rattle.part_alphabets.specs.Alphabets.{AreAlphabets}
use Rattle.release_compile.specs.Judging.{Judging}
use Rattle.release_compile.specs.Summaries.{judges}
use Rattle.node_session.specs.SessionEnds.{Streams}
use Rattle.stored_session.specs.View.{View}
use Rattle.stored_session.specs.Opening.{IsUnfit}
use Rattle.stored_session.specs.Ends.{StoredEnds, IsStoredInput}
use Rattle.stored_session.specs.declared.end.StoredEnd.{StoredEnd}
use Rattle.stored_session.specs.declared.end.StoredEnd.TheVariants as s
use Rattle.interlock_cli.specs.Formats.{Drawing, BayOf, AcceptsAs}
use Rattle.interlock_cli.specs.Form.{File, Word, Given, FormStops}
use Rattle.interlock_cli.specs.Commands.{Command, Node, form_of}
use Rattle.interlock_cli.specs.Complete.{IsAcceptable, Completes}
use Rattle.interlock_cli.specs.Ends.{Call, Unasked, WroteLine, AnswersCall}
use Rattle.interlock_cli.specs.Lines.{line_of, status_of}
use Rattle.interlock_cli.specs.StoredWords.{StoredWords}
use Rattle.interlock_cli.specs.declared.end.Outcome.TheVariants.{Done}
use Rattle.interlock_cli.specs.declared.end.End.{End}
use Rattle.interlock_cli.specs.declared.end.End.TheVariants as e
use Rattle.interlock_cli.specs.declared.status.Status.{Status}
use Rattle.interlock_cli.specs.declared.status.Status.TheVariants as t

-- The end of a call whose stored session ends so. A line that is refused is 10; a record from which the bay cannot go
-- on is 12, in no line.
abbrev pub stored_end : StoredEnd → End
stored_end s.Done = e.Written Done
stored_end s.Unfit = e.Input (record { number = 12; line = 0 })
stored_end (s.Refused line) = e.Input (record { number = 10; line = line })
stored_end s.Long = e.Long
stored_end s.ReadFault = e.ReadFault
stored_end s.WriteFault = e.WriteFault
stored_end s.Memory = e.Memory

-- The session of the bay ends so, for the judge by the graphs over the station's alphabets.
pub record StoresBay {D : Type 0} (v : View D) (d : Diagram) (b : ℕ) (before after : Streams)
    (old new : D) (end : StoredEnd) : Type 0 where
  pub judging : Judging
  pub of_station : judging.diagram ≡ d
  pub alphabets : AreAlphabets judging.diagram judging.alphabets
  pub ends : StoredEnds v (judges judging) d b before after old new end

-- The call ends as a session of the bay does.
abbrev pub EndsStoredSession : {D : Type 0} → View D → Diagram → ℕ → Streams → Streams → D → D → End → Type 0
EndsStoredSession v d b before after old new end =
    (session : StoredEnd) × (end ≡ stored_end session) × StoresBay v d b before after old new session

-- STATION is accepted as this station, and BAY as this bay of it; its session ends so.
pub record Stores {D : Type 0} (v : View D) (w : StoredWords) (c : Call) (old new : D) (end : End) : Type 0 where
  pub diagram : Diagram
  pub drawing : Given c.held (File w.station) Drawing diagram
  pub bay : ℕ
  pub named : Given c.held (Word w.bay) (BayOf diagram) bay
  pub session : StoredEnd
  pub end_is : end ≡ stored_end session
  pub stores : StoresBay v diagram bay c.before c.after old new session

-- STATION or BAY is not accepted, for the causes that `node` has; nothing was written, nor asked of the input or of
-- the device.
pub record StopsBefore {D : Type 0} (w : StoredWords) (c : Call) (old new : D) (end : End) : Type 0 where
  pub stops : FormStops (form_of (Node w.station w.bay)) c.held c.reads_before c.reads_after end
  pub unwritten : Appends c.before.out c.after.out []
  pub unasked : Unasked c
  pub untouched : new ≡ old

-- The call ends so.
abbrev pub EndsStored : {D : Type 0} → View D → StoredWords → Call → D → D → End → Type 0
EndsStored v w c old new end = StopsBefore w c old new end ⊎ Stores v w c old new end

-- The call answers the status of an end that has its cause, and the line of this end went to `err`.
pub record AnswersWords {D : Type 0} (v : View D) (status : Status) (w : StoredWords) (c : Call) (old new : D)
    (err_old err_new : Option (List ℕ)) (err_before err_after : ℕ) : Type 0 where
  pub end : End
  pub status_is : status ≡ status_of end
  pub ends : EndsStored v w c old new end
  pub line : WroteLine err_old err_new err_before err_after (line_of end)

-- For this bay, no line of the input is refused, and the image has a record from which the bay goes on.
abbrev pub GoesOnFrom : List ℕ → List ℕ → Diagram → ℕ → Type 0
GoesOnFrom input image d b = IsStoredInput d b input × ¬ (IsUnfit d b image)

-- STATION, the input and the device are told; STATION and BAY are accepted; and no line and no record is refused.
pub record IsAnsweredStored {D : Type 0} (v : View D) (w : StoredWords) (c : Call) (old : D) : Type 0 where
  pub content : List ℕ
  pub told : c.held w.station ≡ Some content
  pub drawing : IsAcceptable Drawing content
  pub input : List ℕ
  pub input_told : c.before.input ≡ Some input
  pub image : List ℕ
  pub image_told : v.content old ≡ Some image
  pub bay : (d : Diagram) → AcceptsAs Drawing content d → IsAcceptable (BayOf d) w.bay
  pub goes_on : (d : Diagram) (b : ℕ) → AcceptsAs Drawing content d → AcceptsAs (BayOf d) w.bay b
      → GoesOnFrom input image d b

-- No count of faults rose.
pub record IsCalm {D : Type 0} (v : View D) (w : StoredWords) (c : Call) (old new : D) : Type 0 where
  pub station : ¬ Rose (c.reads_before w.station) (c.reads_after w.station)
  pub input : ¬ Rose c.before.reads c.after.reads
  pub out : ¬ Rose c.before.writes c.after.writes
  pub reads : ¬ Rose (v.reads old) (v.reads new)
  pub writes : ¬ Rose (v.writes old) (v.writes new)

-- Then the whole input is answered, or memory was wanting.
abbrev pub CompletesStored : {D : Type 0} → View D → Status → StoredWords → Call → D → D → Type 0
CompletesStored v status w c old new = IsAnsweredStored v w c old → IsCalm v w c old new
    → (Stores v w c old new (e.Written Done) × (status ≡ t.Done)) ⊎ (status ≡ t.Memory)

-- What `run` says of a call: how it ends, that it is Usage where the words name no command, unless it wants memory,
-- and when it goes through.
pub record SaysAsRun (status : Status) (command : Option Command) (c : Call) (err_old err_new : Option (List ℕ))
    (err_before err_after : ℕ) : Type 0 where
  pub answers : AnswersCall status command c err_old err_new err_before err_after
  pub usage : status ≡ t.Usage → command ≡ None
  pub unnamed : command ≡ None → (status ≡ t.Usage) ⊎ (status ≡ t.Memory)
  pub complete : Completes status command c
