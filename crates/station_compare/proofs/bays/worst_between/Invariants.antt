use Rattle.std.proofs.Common.{◌+◌}
use Rattle.station_compare.specs.Bays.{WorstOf, Between}
use Rattle.station_compare.proofs.bays.worst_between.Given as goal

abbrev pub invariant-loop-j : goal.invariant-loop-j
invariant-loop-j l = WorstOf l.old l.new (Between l.first.0 (l.first.0 + l.j)) l.word
