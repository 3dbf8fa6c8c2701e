use Rattle.std.proofs.Common.{◌≡◌, Some, slice_get, subst}
use Rattle.station_graph.specs.Sharing.{OfPart}
use Rattle.contraction.specs.Answers.{Answers}
use Rattle.contraction.specs.Stands.{StandsFor}
use Rattle.part_alphabets.specs.PartAlphabets.{PartAlphabet, letters_of}
use Rattle.bay_contract.proofs.IndexLemmas.{alphabet_at}
use Rattle.bay_contract.proofs.parts.Parts.contraction.Goals as goal

pub returns-clause-kept : goal.returns-clause-kept
returns-clause-kept c = λ d al.
    let at : slice_get (letters_of c.args.self.now c.args.part.0) c.args.index ≡ Some c.letter.result.now = subst (λ
    (y : PartAlphabet). slice_get y.letters c.args.index ≡ Some c.letter.result.now) c.part.ensures.value
    c.letter.ensures in
    (alphabet_at d c.args.self.now c.args.part.0 c.requires.part al).letters c.args.index c.letter.result.now at

pub returns-clause-stands : goal.returns-clause-stands
returns-clause-stands c = λ d v h.
    let at : slice_get (letters_of c.args.self.now c.args.part.0) c.args.index ≡ Some c.letter.result.now = subst (λ
    (y : PartAlphabet). slice_get y.letters c.args.index ≡ Some c.letter.result.now) c.part.ensures.value
    c.letter.ensures in
    let one : h.letter ≡ c.letter.result.now = cc (h.listed, at) in
    subst (λ (y : Answers). StandsFor (OfPart d c.args.part.0) d v y) one h.stands
