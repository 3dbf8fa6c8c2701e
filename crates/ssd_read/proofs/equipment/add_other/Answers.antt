use Rattle.std.proofs.Common.{◌≡◌, ◌∙◌, ◌++◌, ap, subst, Bool}
use Rattle.ssd_read.specs.Types.{is_bond_type}
use Rattle.ssd_read.specs.Steps.{links_along, lone_tap, is_bond}
use Rattle.ssd_read.specs.Seen.{Builds, AnswersRefusal}
use Rattle.ssd_read.specs.Steps.{built}
use Rattle.ssd_read.proofs.Stepped.{first_refused, then_builds}
use Rattle.ssd_read.proofs.equipment.add_other.Goals as goal

pub returns-in-Ok-clause-builds : goal.returns-in-Ok-clause-builds
returns-in-Ok-clause-builds c = λ e k.
    let same : c.is_bond.result ≡ is_bond e = c.is_bond.ensures ∙ ap is_bond_type k in
    subst (λ (b : Bool). Builds c.args.builder.now (links_along b c.args.part.0 c.args.nodes.now ++ lone_tap e
    c.args.part.0 c.args.nodes.now) c.add_lone_tap.result c.add_lone_tap.new.builder) same
    (then_builds c.args.builder.now c.add_links.new.builder c.add_lone_tap.new.builder
    (links_along c.is_bond.result c.args.part.0 c.args.nodes.now) (lone_tap e c.args.part.0 c.args.nodes.now)
    c.add_lone_tap.result c.in-Ok.ensures.builds (c.add_lone_tap.ensures.builds e k))

pub returns-in-Err-clause-builds : goal.returns-in-Err-clause-builds
returns-in-Err-clause-builds c = λ e k.
    let same : c.is_bond.result ≡ is_bond e = c.is_bond.ensures ∙ ap is_bond_type k in
    subst (λ (b : Bool). AnswersRefusal c.in-Err.fault (built c.args.builder.now (links_along b c.args.part.0
    c.args.nodes.now ++ lone_tap e c.args.part.0 c.args.nodes.now))) same
    (first_refused c.args.builder.now (links_along c.is_bond.result c.args.part.0
    c.args.nodes.now) (lone_tap e c.args.part.0 c.args.nodes.now) c.in-Err.fault c.in-Err.ensures.builds)
