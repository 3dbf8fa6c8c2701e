use Rattle.std.proofs.Common.{◌≡◌, ◌^◌, ◌<◌, ◌↔◌, length, sym, ◌∙◌, ap, subst}
use Rattle.part_alphabets.specs.PartAlphabets.{PartAlphabet, part_at}
use Rattle.bay_contract.specs.Paths.{MayLead, IsWay}
use Rattle.part_alphabets.specs.Alphabets.{InSet}
use Rattle.bay_contract.proofs.IndexLemmas.{alphabet_at}
use Rattle.bay_contract.proofs.WayLemmas.{can_have, agreeing_way}
use Rattle.bay_contract.proofs.parts.Parts.possible.Goals as goal

pub returns-clause-positions : goal.returns-clause-positions
returns-clause-positions c i p at =
    subst (λ (y : PartAlphabet). p < 2 ^ y.count) c.part.ensures.value (c.in_ok-set.ensures.placed i p at).small

pub returns-clause-possible : goal.returns-clause-possible
returns-clause-possible c d al =
    let x = part_at c.args.self.now c.args.part.0 in
    let words = c.args.readings.now in
    let set = c.in_ok-set.set in
    let switches : x.switches ≡ length d.switches = sym (ap (λ (y : PartAlphabet). y.switches) c.part.ensures.value)
    ∙ (c.part.ensures.switches ∙ al.switches) in
    let is = alphabet_at d c.args.self.now c.args.part.0 c.requires.part al in
    record {
      count = c.in_ok-set.ensures.count ∙ ap (λ (y : PartAlphabet). length y.letters) c.part.ensures.value;
      exact = λ i.
          let told : InSet set i ↔ MayLead x words i = subst (λ (y : PartAlphabet). InSet set i ↔ MayLead y words i)
          c.part.ensures.value (c.in_ok-set.ensures.exact i) in
          let may = can_have d c.args.self.now c.args.part.0 is words switches i in
          (λ s. may.0 (told.0 s), λ m. told.1 (may.1 m));
      placed = λ i n at. agreeing_way d c.args.self.now c.args.part.0 is words switches i n (subst (λ
          (y : PartAlphabet). IsWay y words i n) c.part.ensures.value (c.in_ok-set.ensures.placed i n at));
    }
