use Rattle.node_session.proofs.Spelling.{reads_18}
use Rattle.node_session.proofs.requests.spelled_record.Goals as goal

pub returns-in-Err-clause-none : goal.returns-in-Err-clause-none
returns-in-Err-clause-none c = λ k in_row spelled.
    let read = reads_18 c.args.digits.now k spelled in
    cc (read, c.in-Err.ensures)
