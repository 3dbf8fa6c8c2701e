use Rattle.std.proofs.Common.{map, string_bytes}
use Rattle.interlock_cli.specs.Commands.{command_of}
use Rattle.interlock_cli.proofs.Through.{completes, unnamed, usage}
use Rattle.interlock_cli.proofs.top.run.Goals as goal

pub returns-clause-usage : goal.returns-clause-usage
returns-clause-usage g c =
    usage _ (command_of (map string_bytes c.args.words.now)) _ c.call-end.result c.make_status.ensures
    c.call-end.ensures.ends

pub returns-clause-unnamed : goal.returns-clause-unnamed
returns-clause-unnamed g c =
    unnamed _ (command_of (map string_bytes c.args.words.now)) _ c.call-end.result c.make_status.ensures
    c.call-end.ensures.ends

pub returns-clause-complete : goal.returns-clause-complete
returns-clause-complete g c =
    completes _ _ (command_of (map string_bytes c.args.words.now)) c.call-end.result c.make_status.ensures
    c.call-end.ensures.ends
