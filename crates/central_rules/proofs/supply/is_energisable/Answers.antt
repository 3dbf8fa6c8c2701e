use Rattle.ilk_base.specs.declared.words.Kind.TheVariants.{Infeed}
use Rattle.station_graph.specs.Connection.{with_breakers_closed}
use Rattle.central_rules.proofs.InClassLemmas.{joined_from_closed, closed_from_joined}
use Rattle.central_rules.proofs.supply.is_energisable.Goals as goal

pub returns : goal.returns
returns c =
    let d = c.args.station.now in
    let v = c.args.vector.now in
    let w = with_breakers_closed d v in
    let station = c.closed_in_class.ensures.station in
    let answer = c.closed_in_class.ensures.answer in (
      λ e. joined_from_closed d station w v c.args.coupled.now c.requires.coupled Infeed c.args.node.0 c.requires.node
          (answer.0 e),
      λ e. answer.1 (closed_from_joined d station w v c.args.coupled.now c.requires.coupled Infeed c.args.node.0
          c.requires.node e),
    )
