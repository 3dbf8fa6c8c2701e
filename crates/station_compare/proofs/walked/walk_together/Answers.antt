use Rattle.station_compare.proofs.walked.walk_together.Goals as goal

pub returns-in-Err-Wide-clause-wide : goal.returns-in-Err-Wide-clause-wide
returns-in-Err-Wide-clause-wide c is = c.in-Err-Wide.ensures.wide c.in-Err-Wide.field-0-is
