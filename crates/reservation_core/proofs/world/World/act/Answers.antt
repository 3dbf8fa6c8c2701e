use Rattle.reservation_core.proofs.ForWorld.{exactly, unchanged, outputs, few, rounds_kept}
use Rattle.reservation_core.proofs.world.World.act.Goals as goal

pub returns-clause-premise : goal.returns-clause-premise
returns-clause-premise g c =
    exactly (g.J.Judge.meaning c.args.judge.now) c.args.station.now c.requires.same c.happen.ensures.station
    c.args.self.now c.happen.new.self c.args.event c.requires.range c.requires.facts.rounds c.happen.result
    c.happen.ensures.step

pub returns-clause-unchanged : goal.returns-clause-unchanged
returns-clause-unchanged g c =
    unchanged (g.J.Judge.meaning c.args.judge.now) c.args.station.now c.requires.same c.happen.ensures.station
    c.args.self.now c.happen.new.self c.args.event c.requires.range c.requires.facts.rounds c.happen.result
    c.happen.ensures.step c.happen.ensures.words

pub returns-clause-output : goal.returns-clause-output
returns-clause-output g c =
    outputs (g.J.Judge.meaning c.args.judge.now) c.args.station.now c.requires.same c.happen.ensures.station
    c.args.self.now c.happen.new.self c.args.event c.requires.range c.requires.facts.rounds c.happen.result
    c.happen.ensures.step

pub returns-clause-few : goal.returns-clause-few
returns-clause-few g c =
    few (g.J.Judge.meaning c.args.judge.now) c.args.station.now c.requires.same c.happen.ensures.station c.args.self.now
    c.happen.new.self c.args.event c.requires.range c.requires.facts.rounds c.happen.result c.happen.ensures.step
    c.happen.ensures.err

pub returns-clause-facts : goal.returns-clause-facts
returns-clause-facts g c =
    rounds_kept (g.J.Judge.meaning c.args.judge.now) c.args.station.now c.requires.same c.happen.ensures.station
    c.args.self.now c.happen.new.self c.args.event c.requires.range c.happen.result c.requires.facts
    c.happen.ensures.step c.happen.ensures.words c.happen.ensures.err
