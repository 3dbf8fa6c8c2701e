use Rattle.station_lines.proofs.StepsText.{adds_none, taps_next, taps_whole}
use Rattle.station_lines.proofs.links.push_taps.Goals as goal

pub loop-node-init : goal.loop-node-init
loop-node-init c = λ part. adds_none c.args.station.now.node_paths c.args.word.now c.args.path.now c.args.text.now

pub loop-node-preserved : goal.loop-node-preserved
loop-node-preserved c =
    let l = c.loop-node in λ part.
    taps_next c.args.station.now.node_paths c.args.word.now c.args.path.now part c.args.nodes.now l.node-index
    c.args.text.now l.text c.push_tap.new.text c.loop-node-test.true (l.invariant part)
    (c.in_ok-push_tap.ensures part)

pub returns : goal.returns
returns c =
    let l = c.loop-node in λ part.
    taps_whole c.args.station.now.node_paths c.args.word.now c.args.path.now part c.args.nodes.now l.node-index
    c.args.text.now l.text c.loop-node-test.false (l.invariant part)
