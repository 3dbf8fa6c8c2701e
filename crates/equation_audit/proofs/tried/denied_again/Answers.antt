use Rattle.std.proofs.Common.{Bool, List, Option, length, ap, subst, ◌∙◌}
use Rattle.std.specs.Prelude.{IfSome}
use Rattle.station_graph.specs.Alike.{IsVector}
use Rattle.equation_audit.proofs.PositionLemmas.{length-placed}
use Rattle.equation_audit.proofs.tried.denied_again.Goals as goal

pub breaks-requires-clause-vector : goal.breaks-requires-clause-vector
breaks-requires-clause-vector c =
    ap length c.place.ensures ∙ (length-placed c.in-Some.vector c.args.own.now c.args.number
    ∙ subst (λ (o : Option (List Bool)). IfSome o (IsVector c.args.station.now)) c.in-Some.is c.requires.denial)
