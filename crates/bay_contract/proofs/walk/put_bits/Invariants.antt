use Rattle.bay_contract.proofs.PutLemmas.{PutSoFar}
use Rattle.bay_contract.proofs.walk.put_bits.Given as goal

abbrev pub invariant-bits : goal.invariant-bits
invariant-bits l = PutSoFar l.first l.position l.fn.vector l.vector l.k l.rest
