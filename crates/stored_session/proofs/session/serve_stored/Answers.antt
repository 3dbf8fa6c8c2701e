use Rattle.stored_session.proofs.Whole.{goes_through}
use Rattle.stored_session.proofs.session.serve_stored.Goals as goal

pub returns-clause-complete : goal.returns-clause-complete
returns-clause-complete g c = λ content image told input holds fit reads writes store_reads store_writes.
    goes_through _ _ _ _ _ _ _ _ content image told input holds fit reads writes store_reads store_writes
    c.serve.result c.serve.ensures
