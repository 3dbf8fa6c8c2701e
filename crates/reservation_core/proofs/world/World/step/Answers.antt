use Rattle.reservation_core.proofs.ForWorld.{exactly, unchanged, outputs, few, facts_kept, sound_kept}
use Rattle.reservation_core.proofs.TrueWords.{obeys}
use Rattle.reservation_core.proofs.world.World.step.Goals as goal

pub returns-clause-premise : goal.returns-clause-premise
returns-clause-premise g c =
    exactly (g.J.Judge.meaning c.args.judge.now) c.args.station.now c.requires.same c.happen.ensures.station
    c.args.self.now c.happen.new.self c.args.event c.requires.range c.requires.facts.facts.rounds c.happen.result
    c.happen.ensures.step

pub returns-clause-unchanged : goal.returns-clause-unchanged
returns-clause-unchanged g c =
    unchanged (g.J.Judge.meaning c.args.judge.now) c.args.station.now c.requires.same c.happen.ensures.station
    c.args.self.now c.happen.new.self c.args.event c.requires.range c.requires.facts.facts.rounds c.happen.result
    c.happen.ensures.step c.happen.ensures.words

pub returns-clause-output : goal.returns-clause-output
returns-clause-output g c =
    outputs (g.J.Judge.meaning c.args.judge.now) c.args.station.now c.requires.same c.happen.ensures.station
    c.args.self.now c.happen.new.self c.args.event c.requires.range c.requires.facts.facts.rounds c.happen.result
    c.happen.ensures.step

pub returns-clause-few : goal.returns-clause-few
returns-clause-few g c =
    few (g.J.Judge.meaning c.args.judge.now) c.args.station.now c.requires.same c.happen.ensures.station c.args.self.now
    c.happen.new.self c.args.event c.requires.range c.requires.facts.facts.rounds c.happen.result c.happen.ensures.step
    c.happen.ensures.err

pub returns-clause-facts : goal.returns-clause-facts
returns-clause-facts g c =
    facts_kept (g.J.Judge.meaning c.args.judge.now) c.args.station.now c.requires.same c.happen.ensures.station
    c.args.self.now c.happen.new.self c.args.event c.requires.range c.happen.result
    (g.met.J.Judge.lawful c.args.judge.now) c.requires.facts c.happen.ensures.step c.happen.ensures.words
    c.happen.ensures.err

pub returns-clause-obeys : goal.returns-clause-obeys
returns-clause-obeys g c =
    obeys (g.J.Judge.meaning c.args.judge.now) c.happen.new.self.scene (facts_kept (g.J.Judge.meaning c.args.judge.now)
    c.args.station.now c.requires.same c.happen.ensures.station c.args.self.now c.happen.new.self c.args.event
    c.requires.range c.happen.result (g.met.J.Judge.lawful c.args.judge.now) c.requires.facts c.happen.ensures.step
    c.happen.ensures.words c.happen.ensures.err).facts

pub returns-clause-sound : goal.returns-clause-sound
returns-clause-sound g c =
    sound_kept (g.J.Judge.meaning c.args.judge.now) c.args.station.now c.requires.same c.happen.ensures.station
    c.args.self.now c.happen.new.self c.args.event c.requires.range c.happen.result c.requires.facts
    c.happen.ensures.step c.happen.ensures.err
