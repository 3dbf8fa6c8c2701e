use Rattle.std.proofs.Common.{◌≡◌, map}
use Rattle.std.specs.Prelude.{take}
use Rattle.contraction.specs.Renaming.{renamed}
use Rattle.bay_contract.proofs.alphabet.values_on.Given as goal

abbrev pub invariant-loop-i : goal.invariant-loop-i
invariant-loop-i l = l.letters.items ≡ map (renamed l.nodes) (take l.i l.values)
