use Rattle.std.proofs.Common.{◌≡◌, ◌++◌, take, drop, map}
use Rattle.station_equations.specs.Growing.{turned_goals}
use Rattle.station_equations.proofs.turning.turn_ops.Given as goal

abbrev pub invariant-loop-i : goal.invariant-loop-i
invariant-loop-i l = l.ops ≡ map (turned_goals l.total) (take l.i l.fn.ops) ++ drop l.i l.fn.ops
