use Rattle.std.proofs.Common.{◌≡◌, map, take, []}
use Rattle.double_points.specs.Positions.{given}
use Rattle.double_points.proofs.positions.no_words.Given as goal

abbrev pub invariant-loop-i : goal.invariant-loop-i
invariant-loop-i l = l.words.items ≡ map (given []) (take l._i l.fn.station.switch_paths)
