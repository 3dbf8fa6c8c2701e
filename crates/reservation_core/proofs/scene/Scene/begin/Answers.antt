use Rattle.std.proofs.Common.{ap, refl, sym, ◌∙◌}
use Rattle.ilk_base.specs.declared.words.Op.{Op}
use Rattle.reservation_core.specs.Scene.{end_position}
use Rattle.reservation_core.specs.Happens.{BeginHappens}
use Rattle.reservation_core.proofs.scene.Scene.begin.Goals as goal

pub returns-then-is_same : goal.returns-then-is_same
returns-then-is_same c =
    let o = c.in-Some.ensures in
    BeginHappens.there_already o.0 o.1 (sym c.position.ensures
    ∙ (c.is_same.ensures.yes c.if-is_same.true
    ∙ (c.end_position.ensures ∙ ap (λ (x : Op). end_position x.direction) o.2))) (record {
      unchanged = refl;
      says = refl;
    })

pub returns : goal.returns
returns c =
    let o = c.in-Some.ensures in
    BeginHappens.begins o.0 o.1 (sym c.runs.ensures ∙ c.if-runs.false) (λ at. c.is_same.ensures.no c.if-is_same.false
    (c.position.ensures ∙ (at ∙ sym (c.end_position.ensures ∙ ap (λ (x : Op). end_position x.direction) o.2))))
    (record { world = c.put.ensures; says = refl })
