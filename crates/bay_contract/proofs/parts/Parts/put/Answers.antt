use Rattle.std.proofs.Common.{◌≡◌, ◌+◌, ◌<◌, ◌≤◌, ◌⊎◌, ℕ, slice_get, subst}
use Rattle.part_alphabets.specs.PartAlphabets.{PartAlphabet, first_switch_of, count_of}
use Rattle.bay_contract.proofs.IndexLemmas.{alphabet_at, put_others}
use Rattle.bay_contract.proofs.parts.Parts.put.Goals as goal

pub returns-clause-others : goal.returns-clause-others
returns-clause-others c = λ d al.
    put_others d c.args.part.0 (first_switch_of c.args.self.now c.args.part.0)
    (count_of c.args.self.now c.args.part.0) c.args.vector.now c.put.new.vector
    (alphabet_at d c.args.self.now c.args.part.0 c.requires.part al).switches
    (subst (λ (y : PartAlphabet). (i : ℕ) → i < y.first ⊎ y.first + y.count ≤ i
    → slice_get c.put.new.vector i ≡ slice_get c.args.vector.now i) c.part.ensures.value c.put.ensures.others)
