-- The records of a log with trips, and the events that they say.
use Rattle.std.proofs.Common.{◌≡◌, ◌+◌, ◌<◌, ◌≤◌, ℕ, zero, suc, true, List, [], ◌∷◌, ◌++◌, length, take, drop}
use Rattle.std.proofs.Common.{map, refl, sym, ap, subst, ◌∙◌, inr, arith}
use Rattle.std.specs.Prelude.{All, codes}
use Rattle.std.specs.List.{AllZip}
use Rattle.std.specs.Str.{is_utf8}
use Rattle.std.proofs.lemmas.List.{length-append, map-append}
use Rattle.std.proofs.lemmas.Str.{is_utf8-from_IsUtf8}
use Rattle.ilk_base.specs.declared.input_fault.InputFault.{InputFault}
use Rattle.ilk_base.specs.declared.input_fault.InputFault.TheVariants.{Memory, Refused}
use Rattle.ilk_base.specs.declared.limits.TheConstants.{FILE_BYTES}
use Rattle.ilk_base.specs.Inputs.{ForRefused}
use Rattle.station_graph.specs.Diagram.{Diagram}
use Rattle.double_points.specs.Rows.{rows_of}
use Rattle.reservation_core.specs.declared.values.LogEvent.{LogEvent}
use Rattle.log_replay.specs.declared.limits.TheConstants.{MOST_RECORDS}
use Rattle.log_replay.specs.RecordFaults.{field}
use Rattle.log_replay.specs.Log.{MayFollow, AreInOrder, IsText}
use Rattle.log_replay.proofs.FieldLemmas.{same_default}
use Rattle.log_replay.proofs.LogLemmas.{next, AllZip-push, order_more}
use Rattle.log_replay.proofs.ReportLemmas.{all_more}
use Rattle.trip_replay.specs.declared.event.TripLogEvent.{TripLogEvent}
use Rattle.trip_replay.specs.TripRecords.{as_log, TripMayBeTold, TripSays, IsTripRow, TripForm}
use Rattle.trip_replay.specs.TripLogs.{TripTell, IsFirstTripFault, IsTripLogFault}

-- ---- one record

name_is_text : is_utf8 (codes "trip") ≡ true
unfolding lib.Utf8.encode
name_is_text = is_utf8-from_IsUtf8 (codes "trip") (codes "trip", (refl, refl))

pub trip_form : (row : List (List ℕ)) → IsTripRow row → length row ≡ 2 → is_utf8 (field row 1) ≡ true → TripForm row
trip_form row named count text = record {
  count = count;
  texts = λ i d lt. ap is_utf8 (same_default row i d lt)
      ∙ each i (omega (arith, lt, count));
}
  where
    each : (i : ℕ) → i < 2 → is_utf8 (field row i) ≡ true
    each zero lt = ap is_utf8 named ∙ name_is_text
    each (suc zero) lt = text
    each (suc (suc i)) lt = absurd (omega (arith, lt))

-- ---- the records of a log

pub trip_tell_more : (d : Diagram) (all : List (List (List ℕ))) (events more : List TripLogEvent) (row : List
    (List ℕ)) (e : TripLogEvent) (rest : List (List (List ℕ))) → more ≡ events ++ e ∷ []
    → drop (length events) all ≡ row ∷ rest → TripTell d (take (length events) all) events → TripSays d row e
    → IsText row → MayFollow (map as_log events) (as_log e) → length events < MOST_RECORDS
    → TripTell d (take (length more) all) more × (rest ≡ drop (length more) all)
trip_tell_more d all events more row e rest pushed left tell says text follows few =
    let n = next all (length events) row rest left in
    let count : length more ≡ length events + 1 = ap length pushed ∙ length-append events (e ∷ []) in
    let taken : take (length more) all ≡ take (length events) all ++ row ∷ [] = ap (λ m. take m all) count ∙ n.taken in
    let it : TripTell d (take (length events) all ++ row ∷ []) (events ++ e ∷ []) = record {
      each = AllZip-push (TripSays d) (take (length events) all) events row e tell.each says;
      texts = all_more IsText (take (length events) all) row tell.texts text;
      order = subst AreInOrder (sym (map-append as_log events (e ∷ []))) (order_more (map as_log events)
          (as_log e) tell.order follows);
      few = omega (arith, few, length-append events (e ∷ []));
    } in (
      subst (λ (rows : List (List (List ℕ))). TripTell d rows more) (sym taken) (subst (TripTell d (take
          (length events) all ++ row ∷ [])) (sym pushed) it),
      sym n.left ∙ ap (λ m. drop m all) (sym count),
    )

-- one event more is one more of the log without trips
pub plain_more : (events more : List TripLogEvent) (plain next : List LogEvent) (e : TripLogEvent) (x : LogEvent)
    → plain ≡ map as_log events → more ≡ events ++ e ∷ [] → x ≡ as_log e → next ≡ plain ++ x ∷ []
    → next ≡ map as_log more
plain_more events more plain next e x is pushed one grown =
    grown ∙ (ap (λ (xs : List LogEvent). xs ++ x ∷ []) is ∙ (ap (λ (y : LogEvent). map as_log events ++ y ∷ []) one
    ∙ (sym (map-append as_log events (e ∷ [])) ∙ ap (λ (es : List TripLogEvent). map as_log es) (sym pushed))))

-- what records say may be told
pub each_told : (d : Diagram) (rows : List (List (List ℕ))) (events : List TripLogEvent)
    → AllZip (TripSays d) rows events → All (TripMayBeTold d) events
each_told d [] [] each k x lt = absurd (omega (arith, lt))
each_told d [] (e ∷ events) each k x lt = absurd each
each_told d (row ∷ rows) [] each k x lt = absurd each
each_told d (row ∷ rows) (e ∷ events) each zero x lt = each.0.told
each_told d (row ∷ rows) (e ∷ events) each (suc k) x lt = each_told d rows events each.1 k x (omega (arith, lt))

-- ---- no log

-- a record with a fault, where the bytes are not too many
pub no_log : (d : Diagram) (bytes : List ℕ) (e : InputFault) → length bytes ≤ FILE_BYTES
    → ForRefused e (IsFirstTripFault d (rows_of bytes)) → ForRefused e (IsTripLogFault d bytes)
no_log d bytes Memory few fault = tt
no_log d bytes (Refused r) few fault = inr (few, fault)
