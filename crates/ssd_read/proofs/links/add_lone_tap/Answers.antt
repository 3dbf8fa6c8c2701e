use Rattle.std.proofs.Common.{ap, ◌∙◌, sym, subst, List}
use Rattle.ssd_read.specs.Types.{is_tapless_type}
use Rattle.ssd_read.specs.Steps.{Step, built}
use Rattle.ssd_read.specs.Seen.{Builds}
use Rattle.ssd_read.proofs.Stepped.{built_none}
use Rattle.ssd_read.proofs.Linked.{not_lone, tapless_lone, loaded_lone}
use Rattle.ssd_read.proofs.links.add_lone_tap.Goals as goal

pub returns-then-is_tapless-clause-builds : goal.returns-then-is_tapless-clause-builds
returns-then-is_tapless-clause-builds c = λ e k.
    ap (built c.args.builder.now) (tapless_lone e c.args.part.0 c.args.nodes.now (sym c.if-is_tapless.true
    ∙ (c.is_tapless.ensures ∙ ap is_tapless_type k)) c.if-nodes-ne1.false) ∙ built_none c.args.builder.now

pub returns-then-nodes-ne1-clause-builds : goal.returns-then-nodes-ne1-clause-builds
returns-then-nodes-ne1-clause-builds c = λ e k.
    ap (built c.args.builder.now) (not_lone e c.args.part.0 c.args.nodes.now c.if-nodes-ne1.true)
    ∙ built_none c.args.builder.now

pub returns-clause-builds : goal.returns-clause-builds
returns-clause-builds c = λ e k.
    subst (λ (ss : List Step). Builds c.args.builder.now ss c.add_tap.result c.add_tap.new.builder)
    (loaded_lone e c.args.part.0 c.args.nodes.now (sym c.if-is_tapless.false
    ∙ (c.is_tapless.ensures ∙ ap is_tapless_type k)) c.if-nodes-ne1.false) c.add_tap.ensures.builds
