use Rattle.std.proofs.Common.{length, ap, arith}
use Rattle.station_graph.specs.Diagram.{Diagram}
use Rattle.test_commands.proofs.equations.has_answers.Goals as goal

pub give_answers-requires-clause-ops : goal.give_answers-requires-clause-ops
give_answers-requires-clause-ops c =
    let same = ap (λ (d : Diagram). length d.switches) c.requires in
    omega (arith, c.in_ok-equations.ensures.of_station.ops, same)
