use Rattle.std.proofs.Common.{ap, arith}
use Rattle.part_alphabets.specs.PartAlphabets.{PartAlphabet}
use Rattle.bay_contract.proofs.alphabet.Alphabet.put.Goals as goal

pub put_bits-requires-clause-room : goal.put_bits-requires-clause-room
put_bits-requires-clause-room c = omega (
  arith,
  c.requires.vector,
  c.self.invariant.numbered,
  ap (λ
      (y : PartAlphabet). y.switches) c.self.view_is,
)
