use Rattle.std.proofs.Common.{◌∙◌, subst}
use Rattle.part_alphabets.specs.Diagrams.{ForksLeadTo}
use Rattle.part_alphabets.specs.PartAlphabets.{PartAlphabet, forks_of}
use Rattle.bay_contract.proofs.IndexLemmas.{alphabet_at, letters_in, index_alike}
use Rattle.bay_contract.proofs.parts.Parts.index_of.Goals as goal

pub returns-clause-alike : goal.returns-clause-alike
returns-clause-alike c = λ d w k al vec h.
    let is = alphabet_at d c.args.self.now c.args.part.0 c.requires.part al in
    let leads : ForksLeadTo (forks_of c.args.self.now c.args.part.0) c.args.vector.now c.index_of.result = subst (λ
    (y : PartAlphabet). ForksLeadTo y.forks c.args.vector.now c.index_of.result) c.part.ensures.value
    c.index_of.ensures.leads in
    index_alike d c.args.self.now c.args.part.0
    (letters_in d c.args.self.now c.args.part.0 is) c.args.vector.now w c.index_of.result k
    ((is.leads c.args.vector.now c.index_of.result (c.requires.vector ∙ al.switches)).1 leads) h
