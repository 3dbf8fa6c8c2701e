use Rattle.std.proofs.Common.{◌≡◌, ◌++◌, take, drop, map}
use Rattle.station_equations.specs.Growing.{turned_goal}
use Rattle.station_equations.proofs.turning.turn_all.Given as goal

abbrev pub invariant-loop-i : goal.invariant-loop-i
invariant-loop-i l = l.goals ≡ map (turned_goal l.total) (take l.i l.fn.goals) ++ drop l.i l.fn.goals
