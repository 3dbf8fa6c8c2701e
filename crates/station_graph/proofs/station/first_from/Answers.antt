use Rattle.std.proofs.Common.{ltb, rules}
use Rattle.std.proofs.lemmas.List.Sorted.{IsPartitionPoint-from_clause}
use Rattle.station_graph.specs.declared.items.Switch.{Switch}
use Rattle.station_graph.proofs.PartLemmas.{IsPartitionedBy-ordered, before_point}
use Rattle.station_graph.proofs.station.first_from.Goals as goal

pub returns-clause-before : goal.returns-clause-before
returns-clause-before c =
    before_point c.args.switches.now c.args.part c.partition_point.result
    (IsPartitionPoint-from_clause (λ (x : Switch). ltb x.bay.0 c.args.part) c.args.switches.now c.partition_point.result
    c.partition_point.ensures.partitioned
    (IsPartitionedBy-ordered c.args.switches.now c.args.part c.requires.ordered) (λ a r q k. search rules))
