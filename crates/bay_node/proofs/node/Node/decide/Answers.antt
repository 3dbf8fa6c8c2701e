use Rattle.std.proofs.Common.{arith, refl, ap, length}
use Rattle.bay_protocol.specs.Step.{Deciding}
use Rattle.bay_node.proofs.Ways.{own_in}
use Rattle.bay_node.proofs.node.Node.decide.Goals as goal

pub sense-requires : goal.sense-requires
sense-requires g c =
    let low = own_in c.args.station.now c.args.self.now.bay c.args.collection.now.op.switch.0 c.requires.own in
    omega (arith, low, c.requires.words, ap (λ s. length s.words) c.self.view_is)

pub returns-in-Release-clause-step : goal.returns-in-Release-clause-step
returns-in-Release-clause-step g c =
    Deciding.release (rw (← c.self.view_is) (rw c.in-Release.is at c.in_ok-verdict.ensures)) (record {
      state = rw (c.sense.ensures, ← c.self.view_is) refl;
      says = c.says.ensures.outcome;
      sends = c.says.ensures.frames;
    })

pub returns-in_ok-frames-in-Denied-clause-step : goal.returns-in_ok-frames-in-Denied-clause-step
returns-in_ok-frames-in-Denied-clause-step g c =
    Deciding.denial c.in-Denied.rule c.in-Denied.reading
    (rw (← c.self.view_is) (rw c.in-Denied.is at c.in_ok-verdict.ensures)) (record {
      state = rw (← c.self.view_is) refl;
      says = refl;
      sends = rw (← c.self.view_is) c.in_ok-frames-in-Denied.ensures;
    })
