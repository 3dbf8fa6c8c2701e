use Rattle.std.proofs.Common.{ap, ◌∙◌, subst, List, [], ◌∷◌, get_or, None}
use Rattle.ilk_base.specs.declared.words.Kind.TheVariants.{Infeed}
use Rattle.ssd_read.specs.Steps.{Step, built, switch_step, tap_step}
use Rattle.ssd_read.specs.Seen.{Builds, AnswersRefusal}
use Rattle.ssd_read.proofs.Stepped.{built_none, then_builds, first_refused}
use Rattle.ssd_read.proofs.Items.{no_infeed, infeed_both}
use Rattle.ssd_read.proofs.switches.add_infeed.Goals as goal

pub returns-in-empty : goal.returns-in-empty
returns-in-empty c = ap (built c.args.builder.now) (no_infeed c.args.part.0 c.args.name.now c.args.nodes.now
    c.in-empty.len_below) ∙ built_none c.args.builder.now

pub returns-in-Ok : goal.returns-in-Ok
returns-in-Ok c =
    let node = get_or c.args.nodes.now 0 0 in
    subst (λ (ss : List Step). Builds c.args.builder.now ss c.add_tap.result c.add_tap.new.builder)
    (infeed_both c.args.part.0 c.args.name.now c.args.nodes.now c.in-len1-up.len_at_least)
    (then_builds c.args.builder.now c.add_one_ended.new.builder c.add_tap.new.builder
    (switch_step c.args.part.0 c.args.name.now Infeed node None ∷ []) (tap_step c.args.part.0 node ∷ [])
    c.add_tap.result c.in-Ok.ensures.builds c.add_tap.ensures.builds)

pub returns-in-Err : goal.returns-in-Err
returns-in-Err c =
    let node = get_or c.args.nodes.now 0 0 in
    subst (λ (ss : List Step). AnswersRefusal c.in-Err.fault (built c.args.builder.now ss))
    (infeed_both c.args.part.0 c.args.name.now c.args.nodes.now c.in-len1-up.len_at_least)
    (first_refused c.args.builder.now (switch_step c.args.part.0 c.args.name.now Infeed node None ∷ [])
    (tap_step c.args.part.0 node ∷ []) c.in-Err.fault c.in-Err.ensures.builds)
