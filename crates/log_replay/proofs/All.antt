-- The headline of a run.
use Rattle.std.proofs.Common.{Bool, List, [], ◌∷◌}
use Rattle.station_graph.specs.Diagram.{IsStation}
use Rattle.central_rules.specs.Meaning.{Meaning, Laws}
use Rattle.reservation_core.specs.Scene.{Scene}
use Rattle.reservation_core.specs.Lines.{Line}
use Rattle.reservation_core.specs.Runs.{Run}
use Rattle.reservation_core.specs.Headline.{AtEach, Decisions, Headline}
use Rattle.log_replay.proofs.LineDecisions.{decides_well}
use Rattle.log_replay.proofs.Truth.{truth_decides}
use Rattle.log_replay.proofs.Stops.{stops_well}
use Rattle.log_replay.proofs.Senders.{own_messages}
use Rattle.log_replay.proofs.Obeying.{run_sound}
use Rattle.log_replay.proofs.Apart.{run_apart}
use Rattle.log_replay.proofs.Since.{run_obeys, run_granted}

run_decides : (m : Meaning) (start : List Bool) (lines : List Line) (w : Scene) → IsStation m.diagram → Laws m →
    Run m start lines w → AtEach (Decisions m.diagram start) lines
run_decides m start [] w station laws run = tt
run_decides m start (l ∷ before) w station laws run = (
  (
    decides_well m start l before w station laws run,
    truth_decides m start before l w station laws run,
    stops_well m start before l w station laws run,
    own_messages m start before l w station laws run,
  ),
  run_decides m start
      before run.0 station laws run.1,
)

pub run_headline : (m : Meaning) (start : List Bool) (lines : List Line) (w : Scene) → IsStation m.diagram → Laws m →
    Run m start lines w → Headline m.diagram start lines
run_headline m start lines w station laws run = record {
  decisions = run_decides m start lines w station laws run;
  granted = run_granted m start lines w station laws run;
  obeys = run_obeys m start lines w station laws run;
  sound = run_sound m start lines w station laws run;
  apart = run_apart m start lines w station laws run;
}
