-- How a stored session stands between two lines, and how it goes on.
use Rattle.std.specs.Prelude.{◌≡◌, ◌≤◌, ◌+◌, ◌*◌, ℕ, List, length, Result, Ok, Err}
use Rattle.std.specs.Io.KnownBytes.{Appends}
use Rattle.station_graph.specs.Diagram.{Diagram}
use Rattle.central_rules.specs.Meaning.{Meaning}
use Rattle.bay_protocol.specs.State.{State, kept_of}
use Rattle.node_session.specs.SessionEnds.{Streams}
use Rattle.node_session.specs.Progress.{HasAsked}
use Rattle.node_store.specs.declared.store.Store.{Store}
use Rattle.node_store.specs.Device.{Told, Becomes, RisesBy}
use Rattle.stored_session.specs.View.{View, Leaves}
use Rattle.stored_session.specs.Kept.{IsKept}
use Rattle.stored_session.specs.Stored.{StoredSession}
use Rattle.stored_session.specs.Along.{StandsAlong}
use Rattle.stored_session.specs.Through.{ReadsThrough}
use Rattle.stored_session.specs.Ends.{BegunEnds}
use Rattle.stored_session.specs.declared.held.Reached.{Reached}
use Rattle.stored_session.specs.declared.line.LineEnd.{LineEnd}
use Rattle.stored_session.specs.declared.line.LineEnd.TheVariants as l
use Rattle.stored_session.specs.declared.end.StoredEnd.{StoredEnd}
use Rattle.stored_session.specs.declared.end.StoredEnd.TheVariants.{Refused, WriteFault, Memory}

-- These lines are answered; the node is in this state, and its record stands on the device; a crash so far leaves the
-- record after some of the lines.
pub record StandsAfter {D : Type 0} (v : View D) (m : Meaning) (d : Diagram) (b : ℕ) (start : State)
    (before now : Streams) (old device : D) (done : List (List ℕ)) (store : Store) (state : State) : Type 0 where
  pub text : List ℕ
  pub session : StoredSession m d b start done text state
  pub wrote : Appends before.out now.out text
  pub kept : Becomes (v.content old) (v.content device) (λ _ image.
      IsKept v.moment v.since device store image (kept_of state))
  pub crash : Told (v.content old) (λ _. Leaves v old device (StandsAlong m d b start done text state 0))
  pub called : RisesBy (6 * length done) (v.calls old) (v.calls device)
  pub stores_grow : v.writes old ≤ v.writes device
  pub reads_grow : before.reads ≤ now.reads
  pub writes_grow : before.writes ≤ now.writes

-- Between two lines: so many are answered, and these bytes of the input are held that follow them.
pub record StoredStands {D : Type 0} (v : View D) (m : Meaning) (d : Diagram) (b : ℕ) (start : State)
    (before now : Streams) (old device : D) (held : List ℕ) (count : ℕ) (store : Store) (state : State) : Type 0 where
  pub done : List (List ℕ)
  pub counted : length done ≡ count
  pub reads : ReadsThrough before.input now.input held done
  pub asked : HasAsked before now held count
  pub after : StandsAfter v m d b start before now old device done store state

-- How the session goes on: it stands after some more lines, or ends.
abbrev pub StoredGoes : {D : Type 0} → View D → Meaning → Diagram → ℕ → State → Streams → Streams → D → D → List ℕ
    → State → Result Reached StoredEnd → Type 0
StoredGoes v m d b start before now old device held state (Ok reached) =
    StoredStands v m d b start before now old device held reached.count reached.store state
StoredGoes v m d b start before now old device held state (Err end) =
    BegunEnds v m d b 0 start before now old device end

-- How a session ends at a line before which so many are answered.
abbrev pub IsEndAt : ℕ → LineEnd → StoredEnd → Type 0
IsEndAt count l.Memory end = end ≡ Memory
IsEndAt count l.Refused end = end ≡ Refused (count + 1)
IsEndAt count l.StoreFailed end = end ≡ WriteFault
IsEndAt count l.OutFailed end = end ≡ WriteFault
