use Rattle.station_graph.specs.Diagram.{node_count}
use Rattle.denial_explain.proofs.RuleReasons.{none_below}
use Rattle.denial_explain.proofs.explaining.explain_earthing.Goals as goal

pub returns-clause-fits : goal.returns-clause-fits
returns-clause-fits c = record {
  op = c.requires.op;
  live = c.in_ok-live.ensures.fits;
  earthed = λ x e. absurd (cc e);
  taps = λ a b e. absurd (cc e);
  bonded = none_below (node_count c.args.station.now) c.new.result c.new.ensures;
}
