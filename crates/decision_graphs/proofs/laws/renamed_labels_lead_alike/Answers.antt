use Rattle.decision_graphs.proofs.RenameLemmas.{leads_renamed, start_in_first}
use Rattle.decision_graphs.proofs.laws.renamed_labels_lead_alike.Goals as goal

pub returns : goal.returns
returns c names g h fit some are cs choices = leads_renamed g.labels names g.layers h.layers 0 cs fit some are
    (start_in_first g.labels g.layers fit some) choices
