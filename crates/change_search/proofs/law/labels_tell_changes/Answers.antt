use Rattle.change_search.proofs.TellingLemmas.{tells_change}
use Rattle.change_search.proofs.law.labels_tell_changes.Goals as goal

pub returns : goal.returns
returns c o n ss ts place walk codes a b change rule u v cs w common joint given =
    tells_change o n ss ts place walk codes a b change rule u v cs w common joint given
