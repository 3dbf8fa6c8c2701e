use Rattle.std.proofs.Common.{refl, sym, subst}
use Rattle.station_graph.specs.Diagram.{Diagram}
use Rattle.reservation_core.specs.Happens.{WithdrawHappens, IsMoving}
use Rattle.reservation_core.proofs.scene.Scene.withdraw.Goals as goal

pub returns-then-is_moving-clause-step : goal.returns-then-is_moving-clause-step
returns-then-is_moving-clause-step g c =
    let moving =
    subst (λ (d : Diagram). IsMoving d c.args.self.now c.args.bay.0) (sym c.requires.same)
    (c.is_moving.ensures.0 c.if-is_moving.true) in
    WithdrawHappens.running moving.0 moving.1 moving.2 (record { unchanged = refl; says = refl })
