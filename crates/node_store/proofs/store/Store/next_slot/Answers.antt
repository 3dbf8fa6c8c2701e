use Rattle.std.proofs.Common.{Option, subst}
use Rattle.node_store.specs.declared.store.Newest.{Newest}
use Rattle.node_store.specs.Store.{Matches}
use Rattle.node_store.proofs.Records.{ready_none, ready_some}
use Rattle.node_store.proofs.store.Store.next_slot.Goals as goal

pub returns-in-None-clause-ready : goal.returns-in-None-clause-ready
returns-in-None-clause-ready c image knows =
    ready_none image (subst (λ (n : Option Newest). Matches image n) c.in-None.is knows)

pub returns-in-Some-clause-ready : goal.returns-in-Some-clause-ready
returns-in-Some-clause-ready c image knows =
    ready_some image c.in-Some.newest c.other.result (subst (λ (n : Option Newest). Matches image n) c.in-Some.is knows)
    c.other.ensures
