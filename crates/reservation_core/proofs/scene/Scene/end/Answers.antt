use Rattle.std.proofs.Common.{ap, refl, sym, ◌∙◌, false}
use Rattle.ilk_base.specs.declared.words.Op.{Op}
use Rattle.reservation_core.specs.Scene.{moves, end_position}
use Rattle.reservation_core.specs.declared.values.Position.{Position}
use Rattle.reservation_core.specs.Happens.{EndHappens}
use Rattle.reservation_core.proofs.scene.Scene.end.Goals as goal

pub returns : goal.returns
returns c =
    let o = c.in-Some.ensures in
    EndHappens.arrives o.0 (sym c.runs.ensures ∙ c.if-not-runs.false) o.1 (record {
      world =
          c.put.ensures
          ∙ ap (λ (p : Position). moves c.args.self.now c.args.switch.0 p false)
          (c.end_position.ensures ∙ ap (λ (x : Op). end_position x.direction) o.2);
      says = refl;
    })
