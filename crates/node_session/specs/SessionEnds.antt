-- How a session over an input and an output ends.
use Rattle.std.specs.Prelude.{◌≡◌, ◌==◌, ◌≤◌, ◌<◌, ◌+◌, ◌++◌, ℕ, List, length, take, count_by, slice_get, Option, Some}
use Rattle.std.specs.Prelude.{IfSome}
use Rattle.std.specs.Str.Lines.{lines}
use Rattle.std.specs.Io.KnownBytes.{Appends, Consumes}
use Rattle.ilk_base.specs.Outside.{Rose}
use Rattle.station_graph.specs.Diagram.{Diagram}
use Rattle.central_rules.specs.Meaning.{Meaning}
use Rattle.node_session.specs.declared.request.TheConstants.{MOST_LINE}
use Rattle.node_session.specs.declared.reader.TheConstants.{CHUNK}
use Rattle.node_session.specs.declared.end.TheConstants.{MOST_LINES}
use Rattle.node_session.specs.declared.end.SessionEnd.{SessionEnd}
use Rattle.node_session.specs.declared.end.SessionEnd.TheVariants.{Done, Refused, Long, ReadFault, WriteFault, Memory}
use Rattle.node_session.specs.Requests.{IsRequest}
use Rattle.node_session.specs.Session.{IsSession}

-- Where the input and `out` stand at a moment: what is left of the input, what was left when its last call began,
-- and what `out` took, where that is told, and the counts of faults of both.
pub record Streams : Type 0 where
  pub input : Option (List ℕ)
  pub asked : Option (List ℕ)
  pub reads : ℕ
  pub out : Option (List ℕ)
  pub writes : ℕ

-- The streams by these parts.
abbrev pub streams : Option (List ℕ) → Option (List ℕ) → ℕ → Option (List ℕ) → ℕ → Streams
streams input asked reads out writes =
    record { input = input; asked = asked; reads = reads; out = out; writes = writes }

-- The input is this, where it is told, and these first bytes of it were taken.
pub record Takes (before after : Streams) (content taken : List ℕ) : Type 0 where
  pub told : IfSome before.input (λ known. known ≡ content)
  pub rest : List ℕ
  pub whole : content ≡ taken ++ rest
  pub consumed : Consumes before.input after.input taken

-- So many lines of the input are answered, with this text.
pub record Answered (m : Meaning) (d : Diagram) (b : ℕ) (content : List ℕ) (count : ℕ) (text : List ℕ) : Type 0 where
  pub within : count ≤ length (lines content)
  pub session : IsSession m d b (take count (lines content)) text

-- These bytes end so many lines, and no more than so many bytes follow.
pub record EndsNear (content taken : List ℕ) (count most : ℕ) : Type 0 where
  pub through : List ℕ
  pub past : List ℕ
  pub parts : taken ≡ through ++ past
  pub ended : lines through ≡ take count (lines content)
  pub near : length past ≤ most

-- When the last call of the input began, no more than so many lines of it were ended: the call was needed for the
-- next line.
abbrev pub LastAsked : Option (List ℕ) → Option (List ℕ) → ℕ → Type 0
LastAsked input asked count = IfSome input (λ content. IfSome asked (λ rest.
    (earlier : List ℕ) × (content ≡ earlier ++ rest) × (count_by (λ byte. byte == 10) earlier ≤ count)))

-- The line at this place, counted from 0, is not one of an input.
pub record IsRefusedLine (d : Diagram) (b : ℕ) (content : List ℕ) (count : ℕ) : Type 0 where
  pub line : List ℕ
  pub stands : slice_get (lines content) count ≡ Some line
  pub refused : ¬ IsRequest d b (count == 0) line

-- All lines are answered, and the whole input was taken.
pub record IsDone (m : Meaning) (d : Diagram) (b : ℕ) (before after : Streams) : Type 0 where
  pub content : List ℕ
  pub text : List ℕ
  pub takes : Takes before after content content
  pub few : length (lines content) ≤ MOST_LINES
  pub answered : Answered m d b content (length (lines content)) text
  pub wrote : Appends before.out after.out text

-- The lines before one that is refused are answered. One that is too long is refused before its end is seen.
pub record IsStopped (m : Meaning) (d : Diagram) (b : ℕ) (before after : Streams) (count : ℕ) : Type 0 where
  pub content : List ℕ
  pub text : List ℕ
  pub taken : List ℕ
  pub takes : Takes before after content taken
  pub few : count < MOST_LINES
  pub answered : Answered m d b content count text
  pub refused : IsRefusedLine d b content count
  pub near : EndsNear content taken count (MOST_LINE + 1 + CHUNK)
  pub wrote : Appends before.out after.out text

-- As many lines as an input may have are answered, and it has more.
pub record IsLong (m : Meaning) (d : Diagram) (b : ℕ) (before after : Streams) : Type 0 where
  pub content : List ℕ
  pub text : List ℕ
  pub taken : List ℕ
  pub takes : Takes before after content taken
  pub more : MOST_LINES < length (lines content)
  pub answered : Answered m d b content MOST_LINES text
  pub wrote : Appends before.out after.out text

-- The input failed. Each line whose end was read is answered.
pub record IsReadFault (m : Meaning) (d : Diagram) (b : ℕ) (before after : Streams) : Type 0 where
  pub rose : Rose before.reads after.reads
  pub content : List ℕ
  pub text : List ℕ
  pub taken : List ℕ
  pub takes : Takes before after content taken
  pub answered : Answered m d b content (count_by (λ byte. byte == 10) taken) text
  pub wrote : Appends before.out after.out text

-- `out` failed: it took the text of the lines before, and of the next line's a front that is not all. Little of
-- the input was taken past the end of that line, and after that end was read the input was not asked again.
pub record IsWriteFault (m : Meaning) (d : Diagram) (b : ℕ) (before after : Streams) : Type 0 where
  pub rose : Rose before.writes after.writes
  pub content : List ℕ
  pub taken : List ℕ
  pub takes : Takes before after content taken
  pub count : ℕ
  pub text : List ℕ
  pub earlier : Answered m d b content count text
  pub answer : List ℕ
  pub answered : Answered m d b content (count + 1) (text ++ answer)
  pub near : EndsNear content taken (count + 1) CHUNK
  pub asked : LastAsked before.input after.asked count
  pub front : ℕ
  pub proper : front < length answer
  pub wrote : Appends before.out after.out (text ++ take front answer)

-- Memory was wanting. Some lines are answered.
pub record IsWant (m : Meaning) (d : Diagram) (b : ℕ) (before after : Streams) : Type 0 where
  pub content : List ℕ
  pub text : List ℕ
  pub taken : List ℕ
  pub takes : Takes before after content taken
  pub count : ℕ
  pub answered : Answered m d b content count text
  pub wrote : Appends before.out after.out text

-- The session of bay b ends so. A refusal names the line, from 1.
abbrev pub SessionEnds : Meaning → Diagram → ℕ → Streams → Streams → SessionEnd → Type 0
SessionEnds m d b before after Done = IsDone m d b before after
SessionEnds m d b before after (Refused line) = (count : ℕ) × (line ≡ count + 1) × IsStopped m d b before after count
SessionEnds m d b before after Long = IsLong m d b before after
SessionEnds m d b before after ReadFault = IsReadFault m d b before after
SessionEnds m d b before after WriteFault = IsWriteFault m d b before after
SessionEnds m d b before after Memory = IsWant m d b before after

-- An input that a session answers to its end: it has no more lines than it may, and each is one of an input.
pub record IsInput (d : Diagram) (b : ℕ) (content : List ℕ) : Type 0 where
  pub few : length (lines content) ≤ MOST_LINES
  pub each : (i : ℕ) (line : List ℕ) → slice_get (lines content) i ≡ Some line → IsRequest d b (i == 0) line
