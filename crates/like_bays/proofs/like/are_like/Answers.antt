use Rattle.std.proofs.Common.{◌≡◌, ℕ, subst, sym, arith}
use Rattle.station_graph.specs.Diagram.{AreSwitchesOf}
use Rattle.like_bays.proofs.LikeLemmas.{like_by}
use Rattle.like_bays.proofs.like.are_like.Goals as goal

pub returns : goal.returns
returns c holds =
    let same : c.switches_of-others.result.1 ≡ c.switches_of-count.result.1 = omega (arith, c.if-count-others.false) in
    like_by c.args.station.now c.in_ok-tables.tables.switches.items c.in_ok-tables.tables.nodes.items c.args.one.0
    c.args.other.0 c.switches_of-count.result.0.0 c.switches_of-others.result.0.0 c.switches_of-count.result.1
    (c.is_exchange.ensures holds) c.switches_of-count.ensures.value
    (subst (λ (k : ℕ). AreSwitchesOf c.args.station.now c.args.other.0 c.switches_of-others.result.0.0 k) same
    c.switches_of-others.ensures.value)
