use Rattle.std.proofs.Common.{ap, subst, [], ◌∙◌, length}
use Rattle.log_replay.specs.Replay.{Replayed}
use Rattle.trip_core.specs.TripRuns.{TripHeadline}
use Rattle.trip_replay.specs.TripLogLines.{trip_start_of, trip_lines_of}
use Rattle.interlock_cli.specs.ReplayWrites.{replay_outcome}
use Rattle.interlock_cli.proofs.Reports.{read_out}
use Rattle.interlock_cli.proofs.trips_command.trips_output.Goals as goal

pub returns : goal.returns
returns c =
    let report = c.in_ok-report in
    let d = c.args.station.now in
    let log = c.args.log.now in
    let ends = c.ended.ensures ∙ ap replay_outcome c.premise.ensures in
    let text = c.whole.ensures ∙ c.in_ok-text.ensures in
    record {
      report = report.report;
      replays = record {
        judging = c.args.judge.now;
        of_station = c.requires.same;
        alphabets = c.requires.alphabets;
        replay = report.ensures.replay;
        count = report.ensures.count;
        whole = report.ensures.whole;
        headline = report.ensures.headline;
      };
      ends = ends;
      text_is = text;
      headline = λ t is. subst (λ (x : Replayed). TripHeadline d (trip_start_of d log) (trip_lines_of log x.out []))
          (read_out d (length log) _ _ report.report t c.requires.lines c.text_decides_report.ensures
          report.ensures.whole ends text is) report.ensures.headline;
    }
