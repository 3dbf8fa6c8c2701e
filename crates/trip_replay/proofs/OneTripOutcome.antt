-- No text is a log with trips and refused as one.
use Rattle.std.proofs.Common.{◌≡◌, ◌≢◌, ◌<◌, ◌+◌, ◌*◌, ◌∙◌, sym, ap, refl, subst, ℕ, zero, suc, Bool, true, false}
use Rattle.std.proofs.Common.{List, [], ◌∷◌, length, get_or, take, map, Some, inl, inr, ◌==◌, arith}
use Rattle.std.specs.Prelude.{slice_get, codes}
use Rattle.std.specs.List.{AllZip, list_any}
use Rattle.std.proofs.lemmas.List.{length-map}
use Rattle.std.proofs.lemmas.Option.{slice_get_within}
use Rattle.ilk_base.specs.declared.words.InputRefusal.{InputRefusal}
use Rattle.ilk_base.specs.declared.words.SwitchId.{SwitchId}
use Rattle.station_graph.specs.Diagram.{Diagram, IsStation}
use Rattle.double_points.specs.Rows.{rows_of}
use Rattle.reservation_core.specs.declared.values.LogEvent.{LogEvent}
use Rattle.reservation_core.specs.declared.values.LogEvent.TheVariants.{At as TellsAt, Step as TellsStep}
use Rattle.reservation_core.specs.declared.values.WorldEvent.{WorldEvent}
use Rattle.log_replay.specs.declared.kinds.RecordKind.{RecordKind}
use Rattle.log_replay.specs.declared.kinds.RecordKind.TheVariants as kind
use Rattle.log_replay.specs.declared.limits.TheConstants.{MOST_RECORDS}
use Rattle.log_replay.specs.Records.{RecordSays, is_step, is_told_of}
use Rattle.log_replay.specs.RecordFaults.{kind_name, field}
use Rattle.log_replay.specs.Log.{IsText, MayFollow}
use Rattle.log_replay.proofs.OneOutcome.{kind_of, of_row, steps_same, told_same, no_fault, follows_too}
use Rattle.log_replay.proofs.ReportLemmas.{each_at}
use Rattle.trip_core.specs.declared.values.TripEvent.TheVariants.{Step as Happening, Trip}
use Rattle.trip_replay.specs.declared.event.TripLogEvent.{TripLogEvent}
use Rattle.trip_replay.specs.declared.event.TripLogEvent.TheVariants.{At, Step}
use Rattle.trip_replay.specs.TripRecords.{as_log, TripSays, IsTripRow, TripFault}
use Rattle.trip_replay.specs.TripRecords.{TripRecordFault}
use Rattle.trip_replay.specs.TripLogs.{IsTripLog, IsTripLogFault}

-- a number that tells the names of records apart
abbrev mark : List ℕ → ℕ
mark name = 256 * length name + get_or name 1 0

-- whether it is that of `trip`
abbrev is_trip : List ℕ → Bool
is_trip name = mark name == 1138

not_trip : (k : RecordKind) → is_trip (kind_name k) ≡ false
not_trip kind.At = refl
not_trip kind.Command = refl
not_trip kind.Sense = refl
not_trip kind.Begin = refl
not_trip kind.End = refl
not_trip kind.Deliver = refl
not_trip kind.Tick = refl
not_trip kind.Withdraw = refl
not_trip kind.Restart = refl
not_trip kind.Part = refl
not_trip kind.Cut = refl

-- no kind of a log without trips is named so
never_named : (k : RecordKind) → kind_name k ≢ codes "trip"
never_named k is = let differ : false ≡ true = sym (not_trip k) ∙ ap is_trip is in cc differ

module _ (d : Diagram) (row : List (List ℕ)) where
  says_at : (e : LogEvent) → RecordSays d row e → ¬ IsTripRow row
  says_at e says named = never_named (kind_of e) (sym (of_row d row e says) ∙ named)

  plain_at : (i : SwitchId) (closed : Bool) → TripSays d row (At i closed) → RecordSays d row (TellsAt i closed)
  plain_at i closed says = record { written = says.written; told = says.told }

  plain_step : (e : WorldEvent) → TripSays d row (Step (Happening e)) → RecordSays d row (TellsStep e)
  plain_step e says = record { written = says.written; told = says.told }

  names_trip : (i : SwitchId) → TripSays d row (Step (Trip i)) → IsTripRow row
  names_trip i says = ap (λ (r : List (List ℕ)). field r 0) says.written

  -- two events that one record says are the same to a test that is the same for two events of a log without trips
  test_same : (test : LogEvent → Bool) → ((x y : LogEvent) → RecordSays d row x → RecordSays d row y → test x ≡ test y)
      → ((x y : WorldEvent) → test (TellsStep x) ≡ test (TellsStep y)) → (x y : TripLogEvent) → TripSays d row x
      → TripSays d row y → test (as_log x) ≡ test (as_log y)
  test_same test same steps (At i closed) (At j shut) a b = same (TellsAt i closed) (TellsAt j shut)
      (plain_at i closed a) (plain_at j shut b)
  test_same test same steps (At i closed) (Step (Happening e)) a b = same (TellsAt i closed) (TellsStep e)
      (plain_at i closed a) (plain_step e b)
  test_same test same steps (Step (Happening e)) (At j shut) a b = same (TellsStep e) (TellsAt j shut)
      (plain_step e a) (plain_at j shut b)
  test_same test same steps (At i closed) (Step (Trip j)) a b = absurd (says_at (TellsAt i closed)
      (plain_at i closed a) (names_trip j b))
  test_same test same steps (Step (Trip i)) (At j shut) a b = absurd (says_at (TellsAt j shut) (plain_at j shut b)
      (names_trip i a))
  test_same test same steps (Step (Happening e)) (Step (Happening f)) a b = steps e f
  test_same test same steps (Step (Happening e)) (Step (Trip j)) a b = steps _ _
  test_same test same steps (Step (Trip i)) (Step (Happening f)) a b = steps _ _
  test_same test same steps (Step (Trip i)) (Step (Trip j)) a b = steps _ _

  -- what a record says has no fault
  no_trip_fault : (i : SwitchId) (number : ℕ) → TripSays d row (Step (Trip i)) → IsText row → TripFault d row number → ⊥
  no_trip_fault i number says texts (TripFault.no_form none is) = none (record {
    count = ap (λ (r : List
        (List ℕ)). length r) says.written;
    texts = texts;
  })
  no_trip_fault i number says texts (TripFault.no_breaker form never is) = never i.0 says.told (ap (λ (r : List
      (List ℕ)). field r 1) says.written)

  never_fault : (before : List LogEvent) (e : TripLogEvent) (number : ℕ) → IsStation d → TripSays d row e → IsText row
      → MayFollow before (as_log e) → length before < MOST_RECORDS → TripRecordFault d before row number → ⊥
  never_fault before e number station says texts follows few (TripRecordFault.too_many named many is) = omega
      (arith, few, many)
  never_fault before (At i closed) number station says texts follows few (TripRecordFault.of_trip named room fault) =
      says_at (TellsAt i closed) (plain_at i closed says) named
  never_fault before (Step (Happening e)) number station says texts follows few
      (TripRecordFault.of_trip named room fault) = says_at (TellsStep e) (plain_step e says) named
  never_fault before (Step (Trip i)) number station says texts follows few
      (TripRecordFault.of_trip named room fault) = no_trip_fault i number says texts fault
  never_fault before (At i closed) number station says texts follows few (TripRecordFault.of_log other fault) =
      no_fault d before row (TellsAt i closed) number station (plain_at i closed says) texts follows few fault
  never_fault before (Step (Happening e)) number station says texts follows few (TripRecordFault.of_log other fault) =
      no_fault d before row (TellsStep e) number station (plain_step e says) texts follows few fault
  never_fault before (Step (Trip i)) number station says texts follows few (TripRecordFault.of_log other fault) =
      other (names_trip i says)

-- ---- what records say

any_trip : (d : Diagram) (test : LogEvent → Bool) → ((row : List (List ℕ)) (x y : TripLogEvent) → TripSays d row x
    → TripSays d row y → test (as_log x) ≡ test (as_log y)) → (rows : List (List (List ℕ)))
    (events before : List TripLogEvent) → AllZip (TripSays d) rows events → AllZip (TripSays d) (take
    (length before) rows) before → list_any test (map as_log before) ≡ list_any test (take (length before)
    (map as_log events))
any_trip d test same rows events [] a b = refl
any_trip d test same [] events (y ∷ before) a b = absurd b
any_trip d test same (row ∷ rows) [] (y ∷ before) a b = absurd a
any_trip d test same (row ∷ rows) (x ∷ events) (y ∷ before) a b =
    let first = same row y x b.0 a.0 in
    let rest = any_trip d test same rows events before a.1 b.1 in
    rw (first, rest) refl

said_at : (d : Diagram) (rows : List (List (List ℕ))) (events : List TripLogEvent) (k : ℕ) (row : List (List ℕ))
    → AllZip (TripSays d) rows events → slice_get rows k ≡ Some row → (e : TripLogEvent)
    × (slice_get events k ≡ Some e) × TripSays d row e
said_at d [] events k row a at = absurd (cc at)
said_at d (r ∷ rows) [] k row a at = absurd a
said_at d (r ∷ rows) (x ∷ events) zero row a at = let same : r ≡ row = cc at in (
  x,
  refl,
  subst (λ (y : List
      (List ℕ)). TripSays d y x) same a.0,
)
said_at d (r ∷ rows) (x ∷ events) (suc k) row a at = said_at d rows events k row a.1 at

mapped_at : (events : List TripLogEvent) (k : ℕ) (e : TripLogEvent) → slice_get events k ≡ Some e
    → slice_get (map as_log events) k ≡ Some (as_log e)
mapped_at [] k e at = absurd (cc at)
mapped_at (x ∷ events) zero e at = let same : x ≡ e = cc at in ap (λ (y : TripLogEvent). Some (as_log y)) same
mapped_at (x ∷ events) (suc k) e at = mapped_at events k e at

-- no text is a log with trips and refused as one
pub trip_log_not_refused : (d : Diagram) (bytes : List ℕ) (events : List TripLogEvent) (r : InputRefusal)
    → IsStation d → IsTripLog d bytes events → IsTripLogFault d bytes r → ⊥
trip_log_not_refused d bytes events r station log (inl (long, is)) = omega (arith, log.few_bytes, long)
trip_log_not_refused d bytes events r station log (inr (short, first)) =
    let rows = rows_of bytes in
    let k = length first.before in
    let said = said_at d rows events k first.row log.tell.each first.stands in
    let within = slice_get_within events k said.0 said.1 in
    let follows = follows_too (map as_log first.before) (take k (map as_log events)) (as_log said.0)
    (any_trip d is_step (λ row. test_same d row is_step (steps_same d row)
    (λ x y. refl)) rows events first.before log.tell.each first.tell.each)
    (λ s. any_trip d (is_told_of s) (λ row. test_same d row (is_told_of s) (told_same d s station row)
    (λ x y. refl)) rows events first.before log.tell.each first.tell.each)
    (log.tell.order k (as_log said.0) (mapped_at events k said.0 said.1)) in
    let count = length-map first.before as_log in
    never_fault d first.row (map as_log first.before) said.0 r.number station said.2
    (each_at IsText rows k first.row log.tell.texts first.stands) follows (omega
    (arith, within, log.tell.few, count)) first.fault
