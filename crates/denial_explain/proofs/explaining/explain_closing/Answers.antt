use Rattle.std.proofs.Common.{◌≡◌, subst}
use Rattle.station_graph.specs.Diagram.{node_count}
use Rattle.denial_explain.specs.ExplanationText.{ChainFits}
use Rattle.denial_explain.specs.declared.chain.Chain.{Chain}
use Rattle.denial_explain.proofs.RuleReasons.{none_below, closing_both}
use Rattle.denial_explain.proofs.explaining.explain_closing.Goals as goal

pub chain_to_closed-requires-clause-there : goal.chain_to_closed-requires-clause-there
chain_to_closed-requires-clause-there c =
    rw (c.in_ok-coupling.ensures.value, c.in_ok-closed.ensures.value)
    (closing_both c.args.station.now c.args.reading.now c.args.op c.switch-moved.result c.requires.reading
    c.switch-moved.ensures.value c.requires.broken.1).0

pub chain_to_closed-requires-2-clause-there : goal.chain_to_closed-requires-2-clause-there
chain_to_closed-requires-2-clause-there c =
    rw (c.in_ok-coupling.ensures.value, c.in_ok-closed.ensures.value)
    (closing_both c.args.station.now c.args.reading.now c.args.op c.switch-moved.result c.requires.reading
    c.switch-moved.ensures.value c.requires.broken.1).1

pub returns-clause-fits : goal.returns-clause-fits
returns-clause-fits c = record {
  op = c.requires.op;
  live = c.in_ok-live.ensures.fits;
  earthed = λ x e. let same : c.in_ok-earthed.earthed ≡ x = cc e in
      subst (λ (y : Chain). ChainFits c.args.station.now y) same c.in_ok-earthed.ensures.fits;
  taps = λ a b e. absurd (cc e);
  bonded = none_below (node_count c.args.station.now) c.new.result c.new.ensures;
}
