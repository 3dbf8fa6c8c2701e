-- What `work` writes, and how it ends.
use Rattle.std.specs.Prelude.{◌≡◌, ℕ, List}
use Rattle.ilk_base.specs.declared.words.Dbpos.{Dbpos}
use Rattle.station_graph.specs.Diagram.{Diagram}
use Rattle.reservation_core.specs.declared.values.LogEvent.{LogEvent}
use Rattle.log_replay.specs.Replay.{Replayed}
use Rattle.station_work.specs.WorkText.{IsWorkText}
use Rattle.interlock_cli.specs.ReplayWrites.{Replays, replay_outcome}
use Rattle.interlock_cli.specs.declared.end.Outcome.{Outcome}

-- The four lines of the station, of the words of its positions and of a run of its log, by the graph judge of the
-- station; where a premise is broken, the call ends so.
abbrev pub WorkWrites : Diagram → List Dbpos → List LogEvent → Outcome → List ℕ → Type 0
WorkWrites d words log outcome text =
    (r : Replayed) × Replays d log r × (outcome ≡ replay_outcome r.broken) × IsWorkText d words r text
