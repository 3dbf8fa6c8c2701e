use Rattle.std.proofs.Common.{◌≡◌, ◌∙◌, ◌<◌, length, get_or, set, arith, ap}
use Rattle.std.proofs.lemmas.List.{get_or_default}
use Rattle.std.proofs.lemmas.List.Edits.{map_over_more}
use Rattle.station_equations.specs.declared.goal.Goal.TheVariants.{Node}
use Rattle.station_equations.specs.declared.goal.SwitchGoals.{SwitchGoals}
use Rattle.station_equations.specs.Growing.{turned_goals}
use Rattle.station_equations.proofs.turning.turn_ops.Goals as goal

pub loop-i-preserved : goal.loop-i-preserved
loop-i-preserved c =
    let none : SwitchGoals = record { opening = Node 0; closing = Node 0 } in
    let x : SwitchGoals = get_or c.loop-i.ops c.loop-i.i none in
    let within : c.loop-i.i < length c.loop-i.ops = omega (arith, c.loop-i-test.true, c.loop-i.auto.ops) in
    let new : ◌≡◌ {A = SwitchGoals} (record { opening = c.turned.result; closing = c.turned-in-loop-i.result })
    (turned_goals c.args.total x) = λ i. record {
      opening = c.turned.ensures i;
      closing = c.turned-in-loop-i.ensures i;
    } in
    ap (set c.loop-i.ops c.loop-i.i) new
    ∙ map_over_more (turned_goals c.args.total) c.args.ops.now c.loop-i.ops c.loop-i.i x c.loop-i-test.true
    c.loop-i.invariant (get_or_default c.loop-i.ops c.loop-i.i none x within)
