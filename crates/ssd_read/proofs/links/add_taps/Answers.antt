use Rattle.std.proofs.Common.{refl, ◌∙◌, List, [], ◌∷◌, ℕ}
use Rattle.ssd_read.specs.Steps.{tap_step, Step}
use Rattle.ssd_read.proofs.Stepped.{built_none, flat_next, flat_refused, flat_whole}
use Rattle.ssd_read.proofs.links.add_taps.Goals as goal

pub loop-node-init : goal.loop-node-init
loop-node-init c = record { builds = built_none c.args.builder.now; nodes = refl; parts = refl; switches = refl }

pub loop-node-preserved : goal.loop-node-preserved
loop-node-preserved c =
    let l = c.loop-node in
    let f : ℕ → List Step = λ n. tap_step c.args.part.0 n ∷ [] in
    record {
      builds = flat_next c.args.builder.now l.builder c.add_tap.new.builder f c.args.nodes.now l.node-index 0
          c.loop-node-test.true l.invariant.builds c.in-Ok.ensures.builds;
      nodes = c.in-Ok.ensures.same.nodes ∙ l.invariant.nodes;
      parts = c.in-Ok.ensures.same.parts ∙ l.invariant.parts;
      switches = c.in-Ok.ensures.same.switches ∙ l.invariant.switches;
    }

pub returns-in-Err-clause-builds : goal.returns-in-Err-clause-builds
returns-in-Err-clause-builds c =
    let l = c.loop-node in
    let f : ℕ → List Step = λ n. tap_step c.args.part.0 n ∷ [] in
    flat_refused c.args.builder.now l.builder f c.args.nodes.now l.node-index 0 c.in-Err.fault c.loop-node-test.true
    l.invariant.builds c.in-Err.ensures.builds

pub returns-clause-builds : goal.returns-clause-builds
returns-clause-builds c =
    let l = c.loop-node in
    let f : ℕ → List Step = λ n. tap_step c.args.part.0 n ∷ [] in
    flat_whole c.args.builder.now l.builder f c.args.nodes.now l.node-index c.loop-node-test.false l.invariant.builds
