use Rattle.ssd_text.proofs.Grammatical.{accepted}
use Rattle.ssd_text.proofs.laws.accepted_is_document.Goals as goal

pub returns : goal.returns
returns c = accepted
