use Rattle.std.proofs.Common.{◌+◌, ◌<◌, ◌≤◌, subst}
use Rattle.part_alphabets.specs.PartAlphabets.{PartAlphabet, first_switch_of, count_of}
use Rattle.bay_contract.proofs.IndexLemmas.{alphabet_at}
use Rattle.bay_contract.proofs.OwnLemmas.{own_switch}
use Rattle.bay_contract.proofs.parts.Parts.step.Goals as goal

pub returns-clause-own : goal.returns-clause-own
returns-clause-own c = λ d al.
    let range = subst (λ (y : PartAlphabet). (y.first ≤ c.step.result.switch.0)
    × (c.step.result.switch.0 < y.first + y.count)) c.part.ensures.value c.step.ensures.own in
    own_switch d c.args.part.0 (first_switch_of c.args.self.now c.args.part.0)
    (count_of c.args.self.now c.args.part.0) c.step.result.switch.0
    (alphabet_at d c.args.self.now c.args.part.0 c.requires.part al).switches range.0 range.1
