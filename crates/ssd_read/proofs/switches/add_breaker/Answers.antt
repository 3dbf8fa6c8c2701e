use Rattle.std.proofs.Common.{ap, ◌∙◌}
use Rattle.ssd_read.specs.Steps.{built}
use Rattle.ssd_read.proofs.Stepped.{built_none}
use Rattle.ssd_read.proofs.Items.{few_breaker}
use Rattle.ssd_read.proofs.switches.add_breaker.Goals as goal

pub returns-in_default : goal.returns-in_default
returns-in_default c = ap (built c.args.builder.now) (few_breaker c.args.part.0 c.args.name.now c.args.nodes.now
    c.in_default.len_below) ∙ built_none c.args.builder.now
