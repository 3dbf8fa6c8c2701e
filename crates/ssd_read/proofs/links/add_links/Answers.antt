use Rattle.std.proofs.Common.{ap, ◌∙◌}
use Rattle.ssd_read.specs.Steps.{built}
use Rattle.ssd_read.proofs.Linked.{no_links}
use Rattle.ssd_read.proofs.Stepped.{built_none}
use Rattle.ssd_read.proofs.links.add_links.Goals as goal

pub returns-in-empty-clause-builds : goal.returns-in-empty-clause-builds
returns-in-empty-clause-builds c = ap (built c.args.builder.now) (no_links c.args.bond c.args.part.0 c.args.nodes.now
    c.in-empty.len_below) ∙ built_none c.args.builder.now
