use Rattle.bay_contract.proofs.AlphabetLemmas.{own_at}
use Rattle.bay_contract.proofs.CourseLemmas.{turns_push}
use Rattle.bay_contract.proofs.course.turns_of.Goals as goal

pub turn_of-requires-clause-own : goal.turn_of-requires-clause-own
turn_of-requires-clause-own c =
    own_at c.args.station.now c.args.part.0 c.args.first c.args.count c.loop-j.j c.requires.switches c.loop-j-test.true

pub loop-j-preserved : goal.loop-j-preserved
loop-j-preserved c =
    turns_push c.args.station.now c.args.part.0 c.args.first c.loop-j.j c.loop-j.turns.items c.push.new.self.items
    c.in_ok-turn_of.field-0 c.loop-j.invariant.0 c.loop-j.invariant.1 c.in_ok-push.ensures.items
    c.in_ok-turn_of.ensures
