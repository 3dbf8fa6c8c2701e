use Rattle.decision_graphs.proofs.BuildingLemmas.{EachHasNode-from_sizes}
use Rattle.test_graphs.proofs.SizesLemmas.{places_fit, may_have}
use Rattle.test_graphs.proofs.table.fill.Goals as goal

pub fill_layer-at-requires-clause-fits : goal.fill_layer-at-requires-clause-fits
fill_layer-at-requires-clause-fits c =
    places_fit c.args.labels c.args.choices.now c.args.nodes.now c.loop-layer.layer c.loop-layer.first
    c.places_after-low.result.0 c.places_after-low.result.1 c.requires.sizes c.ranges.labels.fits
    c.loop-layer-test.true c.loop-layer.invariant.first c.places_after-low.ensures.low
    c.places_after-low.ensures.places

pub fill_layer-at-requires-clause-edges : goal.fill_layer-at-requires-clause-edges
fill_layer-at-requires-clause-edges c k choice to in_nodes in_choices in_places =
    may_have c.loop-layer.builder c.args.labels c.args.choices.now c.args.nodes.now c.loop-layer.layer
    c.loop-layer.first c.places_after-low.result.0 c.places_after-low.result.1 c.loop-layer.invariant.shaped
    c.loop-layer-test.true c.loop-layer.invariant.first c.places_after-low.ensures.low
    c.places_after-low.ensures.places k choice to in_nodes in_choices in_places

pub returns-clause-each : goal.returns-clause-each
returns-clause-each c = EachHasNode-from_sizes c.loop-layer.builder c.args.labels c.args.choices.now c.args.nodes.now
    c.loop-layer.invariant.shaped c.requires.sizes.filled
