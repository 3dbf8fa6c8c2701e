use Rattle.std.proofs.Common.{subst, sym}
use Rattle.station_graph.specs.Diagram.{Diagram}
use Rattle.station_graph.specs.Alike.{Irrelevant, Partner}
use Rattle.exchange_plan.proofs.planning.tells_bay.Goals as goal

pub returns-clause-partner : goal.returns-clause-partner
returns-clause-partner c told = record {
  bay = c.requires.bay;
  other = c.is_bay.ensures.bay c.if-not-is_bay.false;
  apart = c.requires.apart;
  partner =
      subst (λ (d : Diagram). Partner d c.args.part.0 c.args.bay.0) c.requires.station (c.tells.ensures.tells told);
}

pub returns-clause-other : goal.returns-clause-other
returns-clause-other c untold partner =
    partner.partner (subst (λ (d : Diagram). Irrelevant d c.args.part.0 c.args.bay.0) c.requires.station
    (c.tells.ensures.silent untold))
