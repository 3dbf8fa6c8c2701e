use Rattle.ssd_text.proofs.Accepted.{read_ok}
use Rattle.ssd_text.proofs.laws.document_is_accepted.Goals as goal

pub returns : goal.returns
returns c = read_ok
