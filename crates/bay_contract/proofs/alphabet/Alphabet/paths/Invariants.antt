use Rattle.bay_contract.specs.Paths.{PathsTo}
use Rattle.bay_contract.proofs.alphabet.Alphabet.paths.Given as goal

abbrev pub invariant-steps : goal.invariant-steps
invariant-steps l = PathsTo l.self l.readings l.i l.paths.items
