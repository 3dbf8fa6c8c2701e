use Rattle.interlock_cli.proofs.station_command.read_elements.Goals as goal

pub returns-in-Err-clause-err : goal.returns-in-Err-clause-err
returns-in-Err-clause-err c = c.end_of.ensures c.args.bytes.now c.in-Err.ensures.err
