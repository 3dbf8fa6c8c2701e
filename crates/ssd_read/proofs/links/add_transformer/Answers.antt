use Rattle.std.proofs.Common.{false}
use Rattle.ssd_read.specs.Steps.{links_along, tap_steps}
use Rattle.ssd_read.proofs.Stepped.{first_refused, then_builds}
use Rattle.ssd_read.proofs.links.add_transformer.Goals as goal

pub returns-in-Ok-clause-builds : goal.returns-in-Ok-clause-builds
returns-in-Ok-clause-builds c = then_builds c.args.builder.now c.add_links.new.builder c.add_taps.new.builder
    (links_along false c.args.part.0 c.args.nodes.now) (tap_steps c.args.part.0 c.args.nodes.now) c.add_taps.result
    c.in-Ok.ensures.builds c.add_taps.ensures.builds

pub returns-in-Err-clause-builds : goal.returns-in-Err-clause-builds
returns-in-Err-clause-builds c = first_refused c.args.builder.now (links_along false c.args.part.0 c.args.nodes.now)
    (tap_steps c.args.part.0 c.args.nodes.now) c.in-Err.fault c.in-Err.ensures.builds
