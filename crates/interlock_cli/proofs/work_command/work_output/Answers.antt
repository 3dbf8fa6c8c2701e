use Rattle.std.proofs.Common.{ap, ◌∙◌}
use Rattle.interlock_cli.specs.ReplayWrites.{replay_outcome}
use Rattle.interlock_cli.proofs.work_command.work_output.Goals as goal

pub returns : goal.returns
returns c =
    let report = c.in_ok-report in (
      report.report,
      record {
        judging = c.args.judge.now;
        of_station = c.requires.same;
        alphabets = c.requires.alphabets;
        replay = report.ensures.replay;
        count = report.ensures.count;
        whole = report.ensures.whole;
        headline = report.ensures.headline;
      },
      c.ended.ensures ∙ ap replay_outcome c.premise.ensures,
      rw c.whole.ensures c.in_ok-text.ensures,
    )
