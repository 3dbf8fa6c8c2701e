use Rattle.std.proofs.Common.{◌∙◌, ◌<◌, length, get_or, set, arith, ap}
use Rattle.std.proofs.lemmas.List.{get_or_default}
use Rattle.std.proofs.lemmas.List.Edits.{map_over_more}
use Rattle.station_equations.specs.declared.goal.Goal.{Goal}
use Rattle.station_equations.specs.declared.goal.Goal.TheVariants.{Node}
use Rattle.station_equations.specs.Growing.{turned_goal}
use Rattle.station_equations.proofs.turning.turn_all.Goals as goal

pub loop-i-preserved : goal.loop-i-preserved
loop-i-preserved c =
    let goals = c.loop-i.goals in
    let x : Goal = get_or c.loop-i.goals c.loop-i.i (Node 0) in
    let within : c.loop-i.i < length c.loop-i.goals = omega (arith, c.loop-i-test.true, c.loop-i.auto.goals) in
    ap (set c.loop-i.goals c.loop-i.i) c.turned.ensures
    ∙ map_over_more (turned_goal c.args.total) c.args.goals.now c.loop-i.goals c.loop-i.i
    (get_or c.loop-i.goals c.loop-i.i (Node 0)) c.loop-i-test.true c.loop-i.invariant
    (get_or_default c.loop-i.goals c.loop-i.i (Node 0) (get_or c.loop-i.goals c.loop-i.i (Node 0)) within)
