use Rattle.interlock_cli.proofs.Storing.{completes_stored}
use Rattle.interlock_cli.proofs.stored_top.answer_stored.Goals as goal

pub returns-clause-complete : goal.returns-clause-complete
returns-clause-complete g c =
    completes_stored _ _ _ _ _ _ c.stored-end.result c.make_status.ensures c.stored-end.ensures.ends
