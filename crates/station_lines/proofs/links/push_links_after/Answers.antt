use Rattle.std.proofs.Common.{refl}
use Rattle.ssd_read.proofs.Linked.{last_next}
use Rattle.station_lines.proofs.StepsText.{adds_none, links_next, links_whole}
use Rattle.station_lines.proofs.links.push_links_after.Goals as goal

pub loop-node-init : goal.loop-node-init
loop-node-init c = record {
  adds = λ part. adds_none c.args.station.now.node_paths c.args.word.now c.args.path.now c.args.text.now;
  last = refl;
  last_in = c.requires.first;
}

pub loop-node-preserved : goal.loop-node-preserved
loop-node-preserved c =
    let l = c.loop-node in
    record {
      adds = λ part. links_next c.args.station.now.node_paths c.args.word.now c.args.path.now c.args.bond part
          c.args.first l.last c.args.nodes.now l.node-index c.args.text.now l.text c.push_link.new.text
          c.loop-node-test.true l.invariant.last (l.invariant.adds part) (c.in_ok-push_link.ensures part);
      last = last_next c.args.first c.args.nodes.now l.node-index c.loop-node-test.true;
      last_in = c.requires.nodes l.node-index c.loop-node-test.true;
    }

pub returns : goal.returns
returns c =
    let l = c.loop-node in λ part.
    links_whole c.args.station.now.node_paths c.args.word.now c.args.path.now c.args.bond part c.args.first
    c.args.nodes.now l.node-index c.args.text.now l.text c.loop-node-test.false (l.invariant.adds part)
