use Rattle.interlock_cli.proofs.stored_command.serve_bay.Goals as goal

pub returns-clause-ok : goal.returns-clause-ok
returns-clause-ok g c =
    let bay = c.in_ok-bay in (
      bay.bay.0,
      bay.ensures.accepts,
      (
        c.serve_stored.result,
        c.end_of.ensures,
        record {
          judging = c.args.judge.now;
          of_station = c.requires.same;
          alphabets = c.requires.alphabets;
          ends = c.serve_stored.ensures.ends;
        },
      ),
    )
