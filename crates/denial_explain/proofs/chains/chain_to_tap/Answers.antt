use Rattle.std.proofs.Common.{false, Contains, refl}
use Rattle.station_graph.specs.Diagram.{HasTap}
use Rattle.station_graph.specs.Connection.{Touching}
use Rattle.denial_explain.proofs.EndLemmas.{taps_below}
use Rattle.denial_explain.proofs.WayLemmas.{IsWay-same}
use Rattle.denial_explain.proofs.chains.chain_to_tap.Goals as goal

pub way_to-requires-clause-ends : goal.way_to-requires-clause-ends
way_to-requires-clause-ends c =
    taps_below c.args.station.now c.in_ok-ends.ensures.station c.in_ok-ends.ends c.in_ok-ends.ensures.exact

pub way_to-requires-clause-there : goal.way_to-requires-clause-there
way_to-requires-clause-there c =
    let there = c.requires.there in (there.0, there.1, (c.in_ok-ends.ensures.exact there.0).1 there.2)

pub returns-clause-chain : goal.returns-clause-chain
returns-clause-chain c =
    let joined = Touching false c.args.station.now c.args.joining.now in
    let ends = c.in_ok-ends.ends in
    let exact = c.in_ok-ends.ensures.exact in
    let way = c.in_ok-way.way in
    record {
      last = way.last.0;
      way = IsWay-same joined joined (Contains ends) (HasTap c.args.station.now) c.args.from.0 way.last.0 way.nodes
          (λ x y t. t) (λ x y t. t) (λ n e. (exact n).0 e) (λ n e. (exact n).1 e) c.in_ok-way.ensures.way;
      nothing = refl;
    }

pub returns-clause-fits : goal.returns-clause-fits
returns-clause-fits c = record { nodes = c.in_ok-way.ensures.nodes; by = λ id e. absurd (cc e) }
