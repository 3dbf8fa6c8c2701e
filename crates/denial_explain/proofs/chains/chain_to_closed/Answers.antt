use Rattle.std.proofs.Common.{◌≡◌, ◌<◌, false, length, Contains, refl, subst, arith}
use Rattle.std.proofs.lemmas.Option.{slice_get_within}
use Rattle.ilk_base.specs.declared.words.SwitchId.{SwitchId}
use Rattle.station_graph.specs.Connection.{Touching}
use Rattle.station_graph.specs.Supply.{ClosedAt}
use Rattle.denial_explain.proofs.EndLemmas.{closed_below}
use Rattle.denial_explain.proofs.WayLemmas.{IsWay-same}
use Rattle.denial_explain.proofs.chains.chain_to_closed.Goals as goal

pub way_to-requires-clause-ends : goal.way_to-requires-clause-ends
way_to-requires-clause-ends c =
    closed_below c.args.station.now c.args.vector.now c.args.kind c.in_ok-ends.ensures.station c.in_ok-ends.ends
    c.in_ok-ends.ensures.exact

pub way_to-requires-clause-there : goal.way_to-requires-clause-there
way_to-requires-clause-there c =
    let there = c.requires.there in (there.0, there.1, (c.in_ok-ends.ensures.exact there.0).1 there.2)

pub returns-clause-chain : goal.returns-clause-chain
returns-clause-chain c =
    let joined = Touching false c.args.station.now c.args.joining.now in
    let ends = c.in_ok-ends.ends in
    let exact = c.in_ok-ends.ensures.exact in
    let way = c.in_ok-way.way in
    record {
      last = way.last.0;
      way = IsWay-same joined joined (Contains ends) (ClosedAt c.args.station.now c.args.vector.now c.args.kind)
          c.args.from.0 way.last.0 way.nodes
          (λ x y t. t) (λ x y t. t) (λ n e. (exact n).0 e) (λ n e. (exact n).1 e) c.in_ok-way.ensures.way;
      by = c.closed_at-by.result;
      named = refl;
      at = c.closed_at-by.ensures.at.0;
      is_by = c.closed_at-by.ensures.at.1;
      first = c.closed_at-by.ensures.first;
    }

pub returns-clause-fits : goal.returns-clause-fits
returns-clause-fits c =
    let d = c.args.station.now in
    let at = c.closed_at-by.ensures.at in
    let within : c.closed_at-by.result.0 < length d.switches =
    omega (arith, at.1, slice_get_within d.switches at.0.number at.0.switch at.0.listed) in
    record {
      nodes = c.in_ok-way.ensures.nodes;
      by = λ id e. let same : c.closed_at-by.result ≡ id = cc e in subst (λ (i : SwitchId). i.0 < length d.switches)
          same within;
    }
