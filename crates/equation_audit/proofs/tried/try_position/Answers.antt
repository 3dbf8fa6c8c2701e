use Rattle.std.proofs.Common.{Bool, List, Option, subst}
use Rattle.std.specs.Prelude.{IfSome}
use Rattle.equation_audit.specs.Equations.{Equation}
use Rattle.equation_audit.specs.Findings.{IsDeniedAt}
use Rattle.equation_audit.proofs.TriedLemmas.{denied_at}
use Rattle.equation_audit.proofs.tried.try_position.Goals as goal

pub returns-in-Some : goal.returns-in-Some
returns-in-Some g c =
    denied_at c.args.station.now c.args.block.now c.args.own.now c.args.number c.in-Some.reading c.requires.own
    c.requires.block.own
    (subst (λ (e : Equation). IsDeniedAt c.args.station.now e.op c.args.own.now c.args.number c.in-Some.reading)
    c.block.view_is (subst (λ (o : Option (List Bool)). IfSome o (IsDeniedAt c.args.station.now c.block.inside.op
    c.args.own.now c.args.number)) c.in-Some.is c.in_ok-again.ensures))
