use Rattle.std.proofs.Common.{◌≡◌, map, take}
use Rattle.station_equations.specs.EquationLines.{goal_count}
use Rattle.equation_text.proofs.defined.index_counts.Given as goal

abbrev pub invariant-loop-part : goal.invariant-loop-part
invariant-loop-part l = l.counts.items ≡ map goal_count (take l.part-index l.parts)
