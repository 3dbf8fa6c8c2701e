use Rattle.std.proofs.Common.{◌-◌}
use Rattle.station_graph.specs.Diagram.{part_count}
use Rattle.short_equations.proofs.chain.+walk.Given as goal

abbrev pub decreases-walk : goal.decreases-walk
decreases-walk l = part_count l.station.now - l.part
