use Rattle.std.proofs.Common.{◌≡◌, ◌<◌, ◌+◌, ◌∙◌, ℕ, sym, ap, subst, length, map, List}
use Rattle.std.proofs.lemmas.List.{length-map}
use Rattle.csv.specs.Records.{fields_of}
use Rattle.double_points.specs.Rows.{rows_of}
use Rattle.reservation_core.specs.declared.values.LogEvent.{LogEvent}
use Rattle.log_replay.specs.declared.limits.TheConstants.{MOST_RECORDS}
use Rattle.log_replay.specs.Log.{MayFollow}
use Rattle.log_replay.proofs.LogLemmas.{next, nothing_left}
use Rattle.trip_replay.specs.TripRecords.{as_log, TripRecordFault}
use Rattle.trip_replay.specs.TripLogs.{TripTell}
use Rattle.trip_replay.proofs.TripRows.{trip_tell_more, plain_more}
use Rattle.trip_replay.proofs.log.read_events.Goals as goal

pub records-preserved : goal.records-preserved
records-preserved c =
    let all = rows_of c.args.bytes.now in
    let inv = c.records.invariant in
    let events = c.records.events.items in
    let took = sym inv.left ∙ rw c.if-branch.true at c.in_ok-next.ensures.next in
    let read = c.in-Ok.ensures in
    let before = c.as_slice.ensures.value ∙ inv.plain in
    let follows : MayFollow (map as_log events) (as_log c.in-Ok.event) = subst (λ (x : List LogEvent). MayFollow x
    (as_log c.in-Ok.event)) before read.follows in
    let count : length c.records.plain.items ≡ length events = ap length inv.plain ∙ length-map events as_log in
    let few : length events < MOST_RECORDS = subst (λ (n : ℕ). n < MOST_RECORDS) count (subst (λ
    (x : List LogEvent). length x < MOST_RECORDS) c.as_slice.ensures.value read.few) in
    let more = trip_tell_more c.args.station.now all events _
    (fields_of c.next.new.row) c.in-Ok.event _ c.in_ok-push-in-Ok.ensures.items took inv.tell read.ok read.text
    follows few in
    record {
      left = more.1;
      tell = more.0;
      plain =
          plain_more events _ c.records.plain.items _ c.in-Ok.event c.as_log.result inv.plain
          c.in_ok-push-in-Ok.ensures.items c.as_log.ensures c.in_ok-push-in-Ok-2.ensures.items;
    }

pub returns-in-Err-clause-err : goal.returns-in-Err-clause-err
returns-in-Err-clause-err c =
    let all = rows_of c.args.bytes.now in
    let inv = c.records.invariant in
    let events = c.records.events.items in
    let row = fields_of c.next.new.row in
    let n = next all (length events) row _ (sym inv.left ∙ rw c.if-branch.true at c.in_ok-next.ensures.next) in
    rw c.refused.ensures (record {
      before = events;
      row = row;
      tell = inv.tell;
      stands = n.at;
      line = ap (λ k. k + 1) (c.len.ensures ∙ c.records.events.ok.0);
      fault = subst (λ (before : List LogEvent). TripRecordFault c.args.station.now before row c.in-Err.number)
          (c.as_slice.ensures.value ∙ inv.plain) c.in-Err.ensures.err;
    })

pub returns-clause-tell : goal.returns-clause-tell
returns-clause-tell c =
    let all = rows_of c.args.bytes.now in
    let events = c.records.events.items in
    let ended = sym c.records.invariant.left ∙ rw c.if-branch.false at c.in_ok-next.ensures.next in
    subst (λ rows. TripTell c.args.station.now rows events) (nothing_left all (length events) ended)
    c.records.invariant.tell

pub returns-clause-plain : goal.returns-clause-plain
returns-clause-plain c = c.records.invariant.plain
