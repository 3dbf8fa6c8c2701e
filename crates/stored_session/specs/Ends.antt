-- How a stored session stands between two lines, and how it ends.
use Rattle.std.specs.Prelude.{◌≡◌, ◌≤◌, ◌<◌, ◌⊎◌, ◌+◌, ◌*◌, ◌++◌, ◌∷◌, ⊤, ℕ, false, List, [], length, take, Option}
use Rattle.std.specs.List.{All}
use Rattle.std.specs.Str.Lines.{lines as lines_of}
use Rattle.std.specs.Io.KnownBytes.{Appends}
use Rattle.ilk_base.specs.Outside.{Rose}
use Rattle.station_graph.specs.Diagram.{Diagram}
use Rattle.central_rules.specs.Meaning.{Meaning}
use Rattle.bay_protocol.specs.declared.values.Kept.{Kept}
use Rattle.bay_protocol.specs.Fits.{KeptFits}
use Rattle.bay_protocol.specs.State.{State, kept_of, resumed}
use Rattle.node_session.specs.declared.end.TheConstants.{MOST_LINES}
use Rattle.node_session.specs.Requests.{IsRequest}
use Rattle.node_session.specs.SessionEnds.{Streams, LastAsked}
use Rattle.node_store.specs.Device.{Told, Becomes, RisesBy}
use Rattle.node_store.specs.Image.{IsImageOf}
use Rattle.stored_session.specs.View.{View, Leaves, Settled}
use Rattle.stored_session.specs.Opening.{IsUnfit}
use Rattle.stored_session.specs.Stored.{AnswersStored, StoredSession}
use Rattle.stored_session.specs.Along.{StandsAlong}
use Rattle.stored_session.specs.Through.{BeginsStored, IsAll, HasNext, TakesNear, ReadsTo}
use Rattle.stored_session.specs.declared.end.StoredEnd.{StoredEnd}
use Rattle.stored_session.specs.declared.end.StoredEnd.TheVariants.{Done, Unfit, Refused, Long}
use Rattle.stored_session.specs.declared.end.StoredEnd.TheVariants.{ReadFault, WriteFault, Memory}

-- The text of one of the lines was not written, since a write or a sync of the device failed; or the device has the
-- record after the last of the lines, and of that text a front was written that is not all. The lines behind that one
-- were taken of the input with it: after its end was read the input was not asked again, and little was taken past it.
-- `stores` is that the device's count of writes and syncs rose.
pub record StopsWriting (m : Meaning) (d : Diagram) (b : ℕ) (start : State) (before now : Streams) (stores : Type 0)
    (lines : List (List ℕ)) (text : List ℕ) (low : ℕ) : Type 0 where
  pub done : List (List ℕ)
  pub line : List ℕ
  pub more : List (List ℕ)
  pub parts : lines ≡ done ++ line ∷ more
  pub text_done : List ℕ
  pub answer : List ℕ
  pub text_more : List ℕ
  pub texts : text ≡ text_done ++ (answer ++ text_more)
  pub state : State
  pub session : StoredSession m d b start done text_done state
  pub next : State
  pub answers : AnswersStored m d b state line answer next
  pub near : TakesNear before.input now.input (done ++ line ∷ [])
  pub asked : LastAsked before.input now.asked (length done)
  pub front : ℕ
  pub wrote : Appends before.out now.out (text_done ++ take front answer)
  pub cause : (stores × (front ≡ 0) × (low ≡ length done))
      ⊎ (Rose before.writes now.writes × (front < length answer) × (low ≡ length lines))

-- The text of all these lines was written.
pub record WritesAll (before now : Streams) (lines : List (List ℕ)) (text : List ℕ) (low : ℕ) : Type 0 where
  pub wrote : Appends before.out now.out text
  pub all : low ≡ length lines

-- The line that follows these is no line of an input.
abbrev pub RefusesNext : Diagram → ℕ → Option (List ℕ) → List (List ℕ) → Type 0
RefusesNext d b input lines = (line : List ℕ) × HasNext input lines line × ¬ (IsRequest d b false line)

-- What each end says of the lines that the node took, and of their text: they are the whole input; a line follows
-- that is refused, or one too many; the input failed, and each line whose end was read is answered; the text of one of
-- them is not written whole, and little of the input was taken past the last; memory was wanting.
abbrev pub EndsSo : Meaning → Diagram → ℕ → State → Streams → Streams → Type 0 → List (List ℕ) → List ℕ → ℕ
    → StoredEnd → Type 0
EndsSo m d b start before now stores lines text low Done =
    IsAll before.input now.input lines × (length lines ≤ MOST_LINES) × WritesAll before now lines text low
EndsSo m d b start before now stores lines text low (Refused number) =
    (number ≡ length lines + 1) × (length lines < MOST_LINES) × RefusesNext d b before.input lines
    × WritesAll before now lines text low
EndsSo m d b start before now stores lines text low Long =
    (length lines ≡ MOST_LINES) × ((line : List ℕ) × HasNext before.input lines line)
    × WritesAll before now lines text low
EndsSo m d b start before now stores lines text low ReadFault =
    Rose before.reads now.reads × ReadsTo before.input now.input lines × WritesAll before now lines text low
EndsSo m d b start before now stores lines text low WriteFault =
    BeginsStored before.input lines × TakesNear before.input now.input lines
    × StopsWriting m d b start before now stores lines text low
EndsSo m d b start before now stores lines text low Memory =
    BeginsStored before.input lines × WritesAll before now lines text low
EndsSo m d b start before now stores lines text low Unfit = ⊥

-- What `out` took is a front of the text of the first `low` lines: of no line behind them it took a byte.
pub record TookFront (m : Meaning) (d : Diagram) (b : ℕ) (start : State) (before now : Streams)
    (lines : List (List ℕ)) (low : ℕ) : Type 0 where
  pub done : List (List ℕ)
  pub more : List (List ℕ)
  pub parts : lines ≡ done ++ more
  pub count : length done ≡ low
  pub text : List ℕ
  pub state : State
  pub session : StoredSession m d b start done text state
  pub front : ℕ
  pub wrote : Appends before.out now.out (take front text)

-- A session that has begun ends so. It took these lines, from the first state to the last, with these texts. A crash at
-- any moment of the call leaves the record after some number of the lines, or what it could leave at the call: with
-- nothing pending that is the record with which the session begins; where an earlier program was stopped inside a put,
-- the one from before that put or from after it. A crash at the return leaves it after no fewer than `low` lines, and
-- those are all lines of whose text `out` took a byte, or more: so wherever the device stops, the record that it keeps is
-- not behind what was shown. Where all is done, the record after all lines stands on the device. `opening` is how many
-- calls of the device came before the lines.
pub record BegunEnds {D : Type 0} (v : View D) (m : Meaning) (d : Diagram) (b opening : ℕ) (start : State)
    (before now : Streams) (old device : D) (end : StoredEnd) : Type 0 where
  pub lines : List (List ℕ)
  pub text : List ℕ
  pub last : State
  pub session : StoredSession m d b start lines text last
  pub low : ℕ
  pub so : EndsSo m d b start before now (Rose (v.writes old) (v.writes device)) lines text low end
  pub taken : TookFront m d b start before now lines low
  pub crash : Told (v.content old) (λ _. Leaves v old device
      (λ c. v.since old (v.moment old) c ⊎ StandsAlong m d b start lines text last 0 c))
  pub at_return : Told (v.content old) (λ _. (c : List ℕ) → v.since device (v.moment device) c
      → StandsAlong m d b start lines text last low c)
  pub whole : end ≡ Done → Becomes (v.content old) (v.content device) (λ _ image.
      Settled v device image × IsImageOf image (kept_of last))
  pub called : RisesBy (opening + 6 * length lines) (v.calls old) (v.calls device)

-- No line was asked for, and a crash leaves what it could leave at the call.
pub record IsIdle {D : Type 0} (v : View D) (before now : Streams) (old device : D) : Type 0 where
  pub streams : now ≡ before
  pub crash : Told (v.content old) (λ _. Leaves v old device (v.since old (v.moment old)))
  pub called : RisesBy 3 (v.calls old) (v.calls device)

-- Why no line was asked for. Of `reads` and `stores`, the one is that the device's count of reads rose, the other that
-- its count of writes and syncs did.
abbrev pub IdleSo : Diagram → ℕ → Option (List ℕ) → Type 0 → Type 0 → StoredEnd → Type 0
IdleSo d b content reads stores Unfit = Told content (IsUnfit d b)
IdleSo d b content reads stores ReadFault = reads
IdleSo d b content reads stores WriteFault = stores
IdleSo d b content reads stores Memory = ⊤
IdleSo d b content reads stores Done = ⊥
IdleSo d b content reads stores (Refused number) = ⊥
IdleSo d b content reads stores Long = ⊥

-- The record with which a session begins: it fits the bay, the image stands for it, and it is not refused.
pub record Begun (d : Diagram) (b : ℕ) (content : Option (List ℕ)) (kept : Kept) : Type 0 where
  pub fits : KeptFits d b kept
  pub stands : Told content (λ image. IsImageOf image kept)
  pub fit : Told content (λ image. ¬ IsUnfit d b image)

-- The session of bay b ends so: before any line was asked for, or from the record for which the device stood.
abbrev pub StoredEnds : {D : Type 0} → View D → Meaning → Diagram → ℕ → Streams → Streams → D → D → StoredEnd → Type 0
StoredEnds v m d b before now old device end =
    (IsIdle v before now old device
    × IdleSo d b (v.content old) (Rose (v.reads old) (v.reads device)) (Rose (v.writes old) (v.writes device)) end)
    ⊎ ((kept : Kept) × Begun d b (v.content old) kept
    × BegunEnds v m d b 3 (resumed d b kept) before now old device end)

-- An input that a stored session answers to its end: it has no more lines than it may, and each is one of an input and
-- hands back no record.
pub record IsStoredInput (d : Diagram) (b : ℕ) (content : List ℕ) : Type 0 where
  pub few : length (lines_of content) ≤ MOST_LINES
  pub each : All (IsRequest d b false) (lines_of content)
