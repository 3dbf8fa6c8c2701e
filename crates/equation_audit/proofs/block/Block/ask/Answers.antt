use Rattle.std.proofs.Common.{sym, subst, length}
use Rattle.equation_audit.specs.Equations.{Equation, OwnBelow}
use Rattle.equation_audit.specs.Positions.{AllAmong}
use Rattle.equation_audit.proofs.OwnLemmas.{own_below}
use Rattle.equation_audit.proofs.block.Block.ask.Goals as goal

pub ask_of-requires-clause-own : goal.ask_of-requires-clause-own
ask_of-requires-clause-own g c =
    let below = subst (λ (e : Equation). OwnBelow (length c.args.station.now.switches) e.alternatives)
    (sym c.self.view_is) c.requires.block.own in
    subst (AllAmong (length c.args.station.now.switches)) (sym c.deref.ensures.value)
    (own_below (length c.args.station.now.switches) c.self.inside.alternatives.items c.self.inside.own.items
    c.self.invariant.are below)
