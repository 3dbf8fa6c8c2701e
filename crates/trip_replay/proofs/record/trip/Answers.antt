use Rattle.std.proofs.Common.{◌∙◌, sym, ap}
use Rattle.std.specs.Str.{is_utf8}
use Rattle.csv.specs.Records.{fields_of}
use Rattle.trip_replay.specs.TripRecords.{TripFault}
use Rattle.trip_replay.proofs.TripRows.{trip_form}
use Rattle.trip_replay.proofs.record.trip.Goals as goal

pub returns-in-Err-clause-err : goal.returns-in-Err-clause-err
returns-in-Err-clause-err c =
    TripFault.no_breaker (trip_form (fields_of c.args.row.now) c.requires (sym c.len.ensures ∙ c.if-len-ne2.false)
    (ap is_utf8 (sym c.field.ensures) ∙ c.in-Some.ensures.some))
    (λ i breaker is. c.in-Err.ensures.none.0 i breaker (c.in-Some.ensures.text ∙ (c.field.ensures
    ∙ is))) c.in-Err.ensures.none.1

pub returns-in-Ok-clause-text : goal.returns-in-Ok-clause-text
returns-in-Ok-clause-text c = (trip_form (fields_of c.args.row.now) c.requires (sym c.len.ensures
    ∙ c.if-len-ne2.false) (ap is_utf8 (sym c.field.ensures) ∙ c.in-Some.ensures.some)).texts
