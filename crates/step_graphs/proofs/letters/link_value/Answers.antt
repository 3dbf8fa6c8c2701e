use Rattle.station_graph.specs.Connection.{a_link}
use Rattle.step_graphs.proofs.StepLemmas.{one_touches}
use Rattle.step_graphs.proofs.letters.link_value.Goals as goal

pub returns-clause-letter : goal.returns-clause-letter
returns-clause-letter c closed = record {
  stands = λ v at. c.in_ok-value.ensures.stands v;
  kept = λ n.
      let own = c.in_ok-value.ensures.kept n in
      let one = one_touches c.args.station.now (a_link c.args.i) n in
      (λ k. one.0 (own.0 k), λ t. own.1 (one.1 t));
}
