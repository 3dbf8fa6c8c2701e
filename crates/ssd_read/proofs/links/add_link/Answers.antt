use Rattle.std.proofs.Common.{ap, ◌∙◌}
use Rattle.ssd_read.specs.Steps.{built}
use Rattle.ssd_read.proofs.Stepped.{built_none, built_link, refused_link, joined_link}
use Rattle.ssd_read.proofs.links.add_link.Goals as goal

pub returns-in-Ok-clause-builds : goal.returns-in-Ok-clause-builds
returns-in-Ok-clause-builds c = built_link c.args.builder.now c.link.new.self c.args.bond c.args.part.0 c.args.first
    c.args.second c.if-first-second.false c.in-Ok.ensures.within c.in-Ok.ensures.added

pub returns-in-Err-clause-builds : goal.returns-in-Err-clause-builds
returns-in-Err-clause-builds c = refused_link c.args.builder.now c.args.bond c.args.part.0 c.args.first c.args.second
    c.in-Err.fault c.from.result c.if-first-second.false c.from.ensures c.in-Err.ensures.fault

pub returns-then-first-second-clause-builds : goal.returns-then-first-second-clause-builds
returns-then-first-second-clause-builds c =
    ap (built c.args.builder.now) (joined_link c.args.bond c.args.part.0 c.args.first c.args.second
    c.if-first-second.true) ∙ built_none c.args.builder.now
