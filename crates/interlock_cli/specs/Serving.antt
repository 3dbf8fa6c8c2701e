-- How a call ends that serves the input line by line.
use Rattle.std.specs.Prelude.{◌≡◌, ℕ}
use Rattle.station_graph.specs.Diagram.{Diagram}
use Rattle.part_alphabets.specs.Alphabets.{AreAlphabets}
use Rattle.release_compile.specs.Judging.{Judging}
use Rattle.release_compile.specs.Summaries.{judges}
use Rattle.node_session.specs.SessionEnds.{Streams, SessionEnds}
use Rattle.node_session.specs.declared.end.SessionEnd.{SessionEnd}
use Rattle.node_session.specs.declared.end.SessionEnd.TheVariants as s
use Rattle.interlock_cli.specs.declared.end.Outcome.TheVariants.{Done}
use Rattle.interlock_cli.specs.declared.end.End.{End}
use Rattle.interlock_cli.specs.declared.end.End.TheVariants as e

-- The end of a call whose session ends so; a line that is refused is 10.
abbrev pub session_end : SessionEnd → End
session_end s.Done = e.Written Done
session_end (s.Refused line) = e.Input (record { number = 10; line = line })
session_end s.Long = e.Long
session_end s.ReadFault = e.ReadFault
session_end s.WriteFault = e.WriteFault
session_end s.Memory = e.Memory

-- The session of the bay ends so, for the judge by the graphs over the station's alphabets.
pub record ServesBay (d : Diagram) (b : ℕ) (before after : Streams) (end : SessionEnd) : Type 0 where
  pub judging : Judging
  pub of_station : judging.diagram ≡ d
  pub alphabets : AreAlphabets judging.diagram judging.alphabets
  pub ends : SessionEnds (judges judging) d b before after end

-- The call ends as a session of the bay does.
abbrev pub EndsSession : Diagram → ℕ → Streams → Streams → End → Type 0
EndsSession d b before after end = (s : SessionEnd) × (end ≡ session_end s) × ServesBay d b before after s
