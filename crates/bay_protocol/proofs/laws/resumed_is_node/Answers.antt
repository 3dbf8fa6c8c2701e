use Rattle.bay_protocol.proofs.Keeping.{node_resumed}
use Rattle.bay_protocol.proofs.laws.resumed_is_node.Goals as goal

pub returns-clause-node : goal.returns-clause-node
returns-clause-node g c = λ d b k bay fits. node_resumed d b k bay fits

pub returns-clause-fits : goal.returns-clause-fits
returns-clause-fits g c = λ d b k h is. absurd (cc is)
