use Rattle.station_graph.proofs.PartialEdges.{second_fits}
use Rattle.denial_explain.proofs.RuleReasons.{load_gap, loaded_tap, load_explained}
use Rattle.denial_explain.proofs.explaining.explain_load.Goals as goal

pub live_chain-requires-clause-live : goal.live_chain-requires-clause-live
live_chain-requires-clause-live c =
    rw c.in_ok-open.ensures.value
    (load_gap c.args.station.now c.args.reading.now c.args.op c.switch-moved.result c.in-Some.second
    c.switch-moved.ensures.value c.in-Some.is c.requires.broken.2).live

pub chain_to_tap-requires-clause-there : goal.chain_to_tap-requires-clause-there
chain_to_tap-requires-clause-there c =
    let gap = load_gap c.args.station.now c.args.reading.now c.args.op c.switch-moved.result c.in-Some.second
    c.switch-moved.ensures.value c.in-Some.is c.requires.broken.2 in
    loaded_tap c.args.station.now c.switch-moved.ensures.station c.in_ok-open.open c.in_ok-open.ensures.whole
    c.switch-moved.result.first.0 c.switch-moved.ensures.fits.first_in
    (rw c.in_ok-open.ensures.value gap.first_loaded)

pub chain_to_tap-requires-2-clause-there : goal.chain_to_tap-requires-2-clause-there
chain_to_tap-requires-2-clause-there c =
    let gap = load_gap c.args.station.now c.args.reading.now c.args.op c.switch-moved.result c.in-Some.second
    c.switch-moved.ensures.value c.in-Some.is c.requires.broken.2 in
    loaded_tap c.args.station.now c.switch-moved.ensures.station c.in_ok-open.open c.in_ok-open.ensures.whole
    c.in-Some.second.0
    (second_fits c.args.station.now c.switch-moved.result c.in-Some.second c.switch-moved.ensures.fits c.in-Some.is).1
    (rw c.in_ok-open.ensures.value gap.second_loaded)

pub returns-clause-explains : goal.returns-clause-explains
returns-clause-explains c =
    load_explained c.args.station.now c.args.reading.now c.in_ok-open.open c.args.op c.switch-moved.result
    c.in-Some.second c.in_ok-live.live c.in_ok-first_tap.first_tap c.in_ok-second_tap.second_tap c.in_ok-bonded.bonded
    c.in_ok-open.ensures.value c.requires.broken c.switch-moved.ensures.value c.in-Some.is c.in_ok-live.ensures.chain
    c.in_ok-first_tap.ensures.chain c.in_ok-second_tap.ensures.chain c.in_ok-bonded.ensures.exact
    c.in_ok-bonded.ensures.rises
