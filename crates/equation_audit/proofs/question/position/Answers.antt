use Rattle.std.proofs.Common.{length, false, ap, ◌∙◌}
use Rattle.std.proofs.lemmas.List.{length-replicate}
use Rattle.equation_audit.proofs.PositionLemmas.{length-placed}
use Rattle.equation_audit.proofs.question.position.Goals as goal

pub returns-clause-whole : goal.returns-clause-whole
returns-clause-whole c =
    ap length c.place.ensures ∙ (length-placed c.in_ok-vector.vector c.args.own.now c.args.number
    ∙ (ap length c.in_ok-vector.ensures ∙ length-replicate (length c.args.station.now.switches) false))
