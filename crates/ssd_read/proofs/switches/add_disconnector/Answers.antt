use Rattle.std.proofs.Common.{ap, ◌∙◌}
use Rattle.ssd_read.specs.Steps.{built}
use Rattle.ssd_read.proofs.Stepped.{built_none}
use Rattle.ssd_read.proofs.Items.{no_disconnector}
use Rattle.ssd_read.proofs.switches.add_disconnector.Goals as goal

pub returns-in-empty : goal.returns-in-empty
returns-in-empty c = ap (built c.args.builder.now) (no_disconnector c.args.part.0 c.args.name.now c.args.nodes.now
    c.in-empty.len_below) ∙ built_none c.args.builder.now
