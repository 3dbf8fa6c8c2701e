use Rattle.std.proofs.Common.{refl, ◌∙◌}
use Rattle.ssd_read.proofs.Stepped.{built_none}
use Rattle.ssd_read.proofs.Linked.{link_next, link_refused, link_whole, last_next}
use Rattle.ssd_read.proofs.links.add_links_after.Goals as goal

pub loop-node-init : goal.loop-node-init
loop-node-init c = record {
  builds = built_none c.args.builder.now;
  last = refl;
  last_in = c.requires.first;
  nodes = refl;
  parts = refl;
  switches = refl;
}

pub loop-node-preserved : goal.loop-node-preserved
loop-node-preserved c =
    let l = c.loop-node in
    record {
      builds = link_next c.args.builder.now l.builder c.add_link.new.builder c.args.bond c.args.part.0 c.args.first
          l.last c.args.nodes.now l.node-index c.loop-node-test.true l.invariant.last l.invariant.builds
          c.in-Ok.ensures.builds;
      last = last_next c.args.first c.args.nodes.now l.node-index c.loop-node-test.true;
      last_in = c.requires.nodes l.node-index c.loop-node-test.true;
      nodes = c.in-Ok.ensures.same.nodes ∙ l.invariant.nodes;
      parts = c.in-Ok.ensures.same.parts ∙ l.invariant.parts;
      switches = c.in-Ok.ensures.same.switches ∙ l.invariant.switches;
    }

pub returns-in-Err-clause-builds : goal.returns-in-Err-clause-builds
returns-in-Err-clause-builds c =
    let l = c.loop-node in
    link_refused c.args.builder.now l.builder c.args.bond c.args.part.0 c.args.first l.last c.args.nodes.now
    l.node-index c.in-Err.fault c.loop-node-test.true l.invariant.last l.invariant.builds c.in-Err.ensures.builds

pub returns-clause-builds : goal.returns-clause-builds
returns-clause-builds c =
    let l = c.loop-node in
    link_whole c.args.builder.now l.builder c.args.bond c.args.part.0 c.args.first c.args.nodes.now l.node-index
    c.loop-node-test.false l.invariant.builds
