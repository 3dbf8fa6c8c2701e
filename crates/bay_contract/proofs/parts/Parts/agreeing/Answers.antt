use Rattle.part_alphabets.specs.PartAlphabets.{IsPosition}
use Rattle.bay_contract.proofs.SetLemmas.{kept_position, kept_agreeing}
use Rattle.bay_contract.proofs.parts.Parts.agreeing.Goals as goal

pub returns-clause-position : goal.returns-clause-position
returns-clause-position c =
    kept_position (IsPosition c.args.self.now c.args.part.0) c.in_ok-set.set c.args.index c.position.result
    c.in_ok-set.ensures.positions c.position.ensures

pub returns-clause-exact : goal.returns-clause-exact
returns-clause-exact c d al =
    kept_agreeing d c.args.self.now c.args.part.0 c.args.readings.now c.in_ok-set.set c.args.index c.position.result
    (c.in_ok-set.ensures.possible d al) c.position.ensures
