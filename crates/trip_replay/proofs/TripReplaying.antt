-- What a replay with trips keeps at each line.
use Rattle.std.proofs.Common.{◌≡◌, ◌≢◌, ◌+◌, ◌*◌, ◌<◌, ◌≤◌, ◌^◌, ◌∙◌, sym, ap, refl, subst, ℕ, Bool, List}
use Rattle.std.proofs.Common.{[], ◌∷◌, ◌++◌, length, map, Option, Some, None, Result, Ok, Err, arith}
use Rattle.std.specs.Prelude.{slice_get, All, IfOk}
use Rattle.std.proofs.lemmas.List.{length-append, length-map}
use Rattle.std.proofs.lemmas.Option.{slice_get_within}
use Rattle.ilk_base.specs.declared.words.SwitchId.{SwitchId}
use Rattle.station_graph.specs.Diagram.{Diagram, IsStation}
use Rattle.station_graph.specs.Alike.{IsVector}
use Rattle.station_graph.specs.declared.limits.TheConstants.{BAYS}
use Rattle.central_rules.specs.Meaning.{Meaning, Laws}
use Rattle.reservation_core.specs.declared.values.WorldEvent.{WorldEvent}
use Rattle.reservation_core.specs.declared.values.WorldOutcome.{WorldOutcome}
use Rattle.reservation_core.specs.declared.values.WorldOutcome.TheVariants.{Premise}
use Rattle.reservation_core.specs.declared.values.Which.{Which}
use Rattle.reservation_core.specs.Happens.{InRange}
use Rattle.reservation_core.specs.World.{OutputFits}
use Rattle.reservation_core.specs.Lines.{Shown}
use Rattle.reservation_core.specs.Runs.{nothing_shown, shown_of}
use Rattle.log_replay.specs.declared.limits.TheConstants.{MOST_RECORDS}
use Rattle.log_replay.specs.Following.{FitsAt, IsBroken}
use Rattle.log_replay.specs.Replay.{Replayed, ShownFits, shown_at}
use Rattle.log_replay.proofs.Premises.{Exactly, happens_exact}
use Rattle.log_replay.proofs.ReportLemmas.{all_more, each_at}
use Rattle.log_replay.proofs.Replaying.{shows_so, shown_more, report_is}
use Rattle.log_replay.proofs.ReplayHeadline.{start_is_vector, nothing_under_way}
use Rattle.log_replay.specs.Telling.{AreNumbered, IsShowable, IsWholeReport, lines_shown}
use Rattle.log_replay.proofs.Senders.{own_at}
use Rattle.log_replay.proofs.OneReport.{EndsSo, stopped_lines, whole_report}
use Rattle.log_replay.proofs.ShownOutcomes.{nothing_fits, shown_of_fits, nothing_showable, showable_of}
use Rattle.trip_core.specs.declared.values.TripEvent.{TripEvent}
use Rattle.trip_core.specs.declared.values.TripEvent.TheVariants.{Step as Happening, Trip}
use Rattle.trip_core.specs.Trips.{TripScene}
use Rattle.trip_core.specs.Start.{IsTripStart}
use Rattle.trip_core.specs.Happens.{TripHappens, TripInRange}
use Rattle.trip_core.specs.Facts.{TripFacts}
use Rattle.trip_core.specs.TripLines.{TripLine, plain, trip_true, trip_drives}
use Rattle.trip_core.specs.TripRuns.{TripRun, TripLeads, TripMayHappen, TripPremisesHold, IsTripBroken, TripHeadline}
use Rattle.trip_replay.specs.declared.event.TripLogEvent.{TripLogEvent}
use Rattle.trip_replay.specs.declared.event.TripLogEvent.TheVariants.{At, Step}
use Rattle.trip_replay.specs.TripRecords.{as_log, TripMayBeTold}
use Rattle.trip_replay.specs.TripLogLines.{trip_start_of, TripHasStart, trip_lines_of}
use Rattle.trip_replay.specs.TripReplays.{TripLineHappens, IsTripRunOf, IsTripReplay}
use Rattle.trip_replay.proofs.TripFollowing.{trip_is}
use Rattle.trip_replay.proofs.TripAll.{trip_headline}

-- what a replay keeps after k lines
pub record TripReplaying (m : Meaning) (log : List TripLogEvent) (outs : List (Option WorldOutcome)) (s : TripScene)
    (k : ℕ) : Type 0 where
  pub facts : TripFacts m s
  pub count : length outs ≡ k
  pub run : TripRun m (trip_start_of m.diagram log) (trip_lines_of log (map shown_at outs) []) s
  pub premises : TripPremisesHold m.diagram (trip_start_of m.diagram log) (trip_lines_of log (map shown_at outs) [])
  pub room : length s.world.scene.sent ≤ 64 * k
  pub events : s.events ≤ k
  pub fits : All (ShownFits m.diagram) (map shown_at outs)
  pub showable : All (IsShowable m.diagram) (map shown_at outs)

-- ---- lines

lines_none : (log : List TripLogEvent) (seen : List TripLine) → trip_lines_of log [] seen ≡ seen
lines_none [] seen = refl
lines_none (At i closed ∷ log) seen = refl
lines_none (Step e ∷ log) seen = refl

lines_step : (log : List TripLogEvent) (out : List Shown) (seen : List TripLine) (e : TripEvent) (s : Shown)
    → slice_get log (length out) ≡ Some (Step e) → trip_lines_of log (out ++ s ∷ []) seen ≡ record {
      event = e;
      shown = s;
    } ∷ trip_lines_of log out seen
lines_step [] out seen e s got = absurd (cc got)
lines_step (At i closed ∷ log) [] seen e s got = absurd (cc got)
lines_step (Step x ∷ log) [] seen e s got = let same : x ≡ e = cc got in lines_none log (record {
  event = x;
  shown = s;
} ∷ seen) ∙ ap (λ (y : TripEvent). let list : List TripLine = record { event = y; shown = s } ∷ seen in
    list) same
lines_step (At i closed ∷ log) (p ∷ out) seen e s got = lines_step log out seen e s got
lines_step (Step x ∷ log) (p ∷ out) seen e s got = lines_step log out (record { event = x; shown = p } ∷ seen) e s got

lines_at : (log : List TripLogEvent) (out : List Shown) (seen : List TripLine) (i : SwitchId) (closed : Bool)
    (s : Shown) → slice_get log (length out) ≡ Some (At i closed) → trip_lines_of log
    (out ++ s ∷ []) seen ≡ trip_lines_of log out seen
lines_at [] out seen i closed s got = absurd (cc got)
lines_at (At j shut ∷ log) [] seen i closed s got = lines_none log seen ∙ sym (lines_none (At j shut ∷ log) seen)
lines_at (Step x ∷ log) [] seen i closed s got = absurd (cc got)
lines_at (At j shut ∷ log) (p ∷ out) seen i closed s got = lines_at log out seen i closed s got
lines_at (Step x ∷ log) (p ∷ out) seen i closed s got = lines_at log out (record {
  event = x;
  shown = p;
} ∷ seen) i closed s got

got_at : (log : List TripLogEvent) (outs : List (Option WorldOutcome)) (k : ℕ) (x : TripLogEvent) → length outs ≡ k
    → slice_get log k ≡ Some x → slice_get log (length (map shown_at outs)) ≡ Some x
got_at log outs k x count got = ap (slice_get log) (length-map outs shown_at ∙ count) ∙ got

-- ---- what is shown

-- what is shown of what happens is of the station
trip_fits : (m : Meaning) (old new : TripScene) (e : TripEvent) (o : WorldOutcome) → TripHappens m old e new o
    → OutputFits m.diagram o → length new.world.scene.sent < 2 ^ 32 → ShownFits m.diagram (shown_of o)
trip_fits m old new (Happening e) o happens fits few =
    shown_of_fits m old.world.scene new.world.scene e o happens.happens fits few
trip_fits m old new (Trip i) o happens fits few = subst (λ (x : WorldOutcome). ShownFits m.diagram (shown_of x))
    (sym happens.says) (nothing_fits m.diagram)

-- and may be shown
trip_showable : (m : Meaning) (old new : TripScene) (e : TripEvent) (o : WorldOutcome) → IsStation m.diagram
    → TripFacts m old → TripInRange m.diagram e → TripHappens m old e new o → ((which : Which) → o ≢ Premise which)
    → OutputFits m.diagram o → length new.world.scene.sent < 2 ^ 32 → AreNumbered (Some o)
    → IsShowable m.diagram (shown_of o)
trip_showable m old new (Happening e) o station facts range happens fine fits few numbers =
    showable_of m old.world.scene new.world.scene e o station happens.happens fits few numbers
    (own_at m old.world.scene new.world.scene (record { event = e; shown = shown_of o })
    facts.rounds.rounds.shape.named
    (record { range = range; outcome = o; happens = happens.happens; shows = shows_so o fine }))
trip_showable m old new (Trip i) o station facts range happens fine fits few numbers = subst (λ
    (x : WorldOutcome). IsShowable m.diagram (shown_of x)) (sym happens.says) (nothing_showable m.diagram)

in_range : (d : Diagram) (e : TripEvent) → TripMayBeTold d (Step e) → TripInRange d e
in_range d (Happening e) told = told.0
in_range d (Trip i) told = told

-- ---- the lines

start_replaying : (m : Meaning) (log : List TripLogEvent) (s : TripScene) → IsTripStart m.diagram
    (trip_start_of m.diagram log) s → TripFacts m s → TripReplaying m log [] s 0
start_replaying m log s is facts = record {
  facts = facts;
  count = refl;
  run = subst (λ (ls : List TripLine). TripRun m (trip_start_of m.diagram log) ls s) (sym (lines_none log [])) is;
  premises = subst (λ (ls : List TripLine). TripPremisesHold m.diagram (trip_start_of m.diagram log) ls) (sym
      (lines_none log [])) tt;
  room = let e : length s.world.scene.sent ≡ 0 = ap length is.world.scene.sent in omega (arith, e);
  events = omega (arith, is.events);
  fits = λ k d lt. absurd (omega (arith, lt));
  showable = λ k d lt. absurd (omega (arith, lt));
}

module _ (m : Meaning) (log : List TripLogEvent) (outs : List (Option WorldOutcome)) (old new : TripScene) (k : ℕ)
    (station : IsStation m.diagram) (laws : Laws m) (r : TripReplaying m log outs old k) where
  abbrev start : List Bool
  start = trip_start_of m.diagram log

  abbrev before : List TripLine
  before = trip_lines_of log (map shown_at outs) []

  -- the premise of what happens is exact
  exact_at : (e : WorldEvent) (o : WorldOutcome) → InRange m.diagram e → TripHappens m old (Happening e) new o
      → Exactly (TripMayHappen m.diagram start before (Happening e)) e o
  exact_at e o range happens =
      let is = trip_is m start station laws before old r.run in
      happens_exact m (trip_true m.diagram start before) (trip_drives before)
      (plain before) old.world.scene new.world.scene o is.facts.rounds.rounds is.truth is.drives is.said e range
      happens.happens

  may_happen : (e : TripEvent) (o : WorldOutcome) → TripInRange m.diagram e → TripHappens m old e new o
      → ((which : Which) → o ≢ Premise which) → TripMayHappen m.diagram start before e
  may_happen (Happening e) o range happens fine = elim (exact_at e o range happens) [
    | Exactly.keeps may never ↦ may
    | Exactly.breaks which not_so named says ↦ absurd (fine which says)
  ]
  may_happen (Trip i) o range happens fine = tt

  -- one line more
  pub goes_on : (x : TripLogEvent) (o : Option WorldOutcome) → slice_get log k ≡ Some x → k < MOST_RECORDS
      → TripMayBeTold m.diagram x → TripLineHappens m old x new o → FitsAt m.diagram o → AreNumbered o
      → length new.world.scene.sent < length old.world.scene.sent + BAYS → new.events ≤ old.events + 1
      → TripFacts m new → ((which : Which) → ¬ IsBroken o which) → TripReplaying m log (outs ++ o ∷ []) new (k + 1)
  goes_on (At i closed) (Some o) got lt told happens fits numbers few counted facts none = absurd happens
  goes_on (Step e) None got lt told happens fits numbers few counted facts none = absurd happens
  goes_on (At i closed) None got lt told happens fits numbers few counted facts none =
      let same = shown_more outs None in
      let lines : trip_lines_of log (map shown_at (outs ++ None ∷ [])) [] ≡ before = ap (λ
      (ss : List Shown). trip_lines_of log ss []) same ∙ lines_at log
      (map shown_at outs) [] i closed nothing_shown (got_at log outs k (At i closed) r.count got) in
      let here : TripRun m start before new = subst (TripRun m start before) (sym happens) r.run in
      record {
        facts = facts;
        count = let long = length-append outs (None ∷ []) in omega (arith, long, r.count);
        run = subst (λ (ls : List TripLine). TripRun m start ls new) (sym lines) here;
        premises = subst (λ (ls : List TripLine). TripPremisesHold m.diagram start ls) (sym lines) r.premises;
        room = omega (arith, few, r.room);
        events = omega (arith, counted, r.events);
        fits = subst (λ (ss : List Shown). All (ShownFits m.diagram) ss) (sym same) (all_more (ShownFits m.diagram)
            (map shown_at outs) nothing_shown r.fits (nothing_fits m.diagram));
        showable = subst (λ (ss : List Shown). All (IsShowable m.diagram) ss) (sym same) (all_more
            (IsShowable m.diagram) (map shown_at outs) nothing_shown r.showable (nothing_showable m.diagram));
      }
  goes_on (Step e) (Some o) got lt told happens fits numbers few counted facts none =
      let same = shown_more outs (Some o) in
      let l : TripLine = record { event = e; shown = shown_of o } in
      let lines : trip_lines_of log (map shown_at (outs ++ Some o ∷ [])) [] ≡ l ∷ before = ap (λ
      (ss : List Shown). trip_lines_of log ss []) same ∙ lines_step log (map shown_at outs) [] e (shown_of o)
      (got_at log outs k (Step e) r.count got) in
      let fine : (which : Which) → o ≢ Premise which = λ which is. none which (ap Some is) in
      let range = in_range m.diagram e told in
      let leads : TripLeads m old l new = record {
        range = range;
        outcome = o;
        happens = happens;
        shows = shows_so o fine;
      } in
      record {
        facts = facts;
        count = let long = length-append outs (Some o ∷ []) in omega (arith, long, r.count);
        run = subst (λ (ls : List TripLine). TripRun m start ls new) (sym lines) (old, r.run, leads);
        premises = subst (λ (ls : List TripLine). TripPremisesHold m.diagram start ls) (sym lines)
            (may_happen e o range happens fine, r.premises);
        room = omega (arith, few, r.room);
        events = omega (arith, counted, r.events);
        fits = subst (λ (ss : List Shown). All (ShownFits m.diagram) ss) (sym same) (all_more (ShownFits m.diagram)
            (map shown_at outs) (shown_of o) r.fits
            (trip_fits m old new e o happens fits (omega (arith, few, r.room, lt))));
        showable = subst (λ (ss : List Shown). All (IsShowable m.diagram) ss) (sym same) (all_more
            (IsShowable m.diagram) (map shown_at outs) (shown_of o) r.showable
            (trip_showable m old new e o station r.facts range happens fine fits (omega (arith, few, r.room, lt))
            numbers));
      }

  -- ---- the end

  run_of : TripHasStart m.diagram log → IsTripRunOf m log (map shown_at outs) old
  run_of has = record { start = has; run = r.run; premises = r.premises }

  pub is_whole : (report : Replayed) → TripHasStart m.diagram log → k ≡ length log → report.out ≡ map shown_at outs
      → report.broken ≡ None → IsTripReplay m log report
  is_whole report has all first second =
      subst (IsTripReplay m log) (sym (report_is report (map shown_at outs) None first second))
      (IsTripReplay.whole old (run_of has) (length-map outs shown_at ∙ r.count ∙ all) refl)

  pub is_stopped : (x : TripLogEvent) (o : Option WorldOutcome) (which : Which) (report : Replayed)
      → TripHasStart m.diagram log → slice_get log k ≡ Some x → TripMayBeTold m.diagram x
      → TripLineHappens m old x new o → IsBroken o which → report.out ≡ map shown_at outs
      → report.broken ≡ Some (k + 1, which) → IsTripReplay m log report
  is_stopped (At i closed) (Some o) which report has got told happens broken first second = absurd happens
  is_stopped (Step e) None which report has got told happens broken first second = absurd happens
  is_stopped (At i closed) None which report has got told happens broken first second = absurd (cc broken)
  is_stopped (Step (Trip i)) (Some o) which report has got told happens broken first second =
      let is : o ≡ Premise which = cc broken in absurd (cc (is, happens.says))
  is_stopped (Step (Happening e)) (Some o) which report has got told happens broken first second =
      let is : o ≡ Premise which = cc broken in
      let breaks : IsTripBroken m.diagram start before e which = elim (exact_at e o told.0 happens) [
        | Exactly.keeps may never ↦ absurd (never which is)
        | Exactly.breaks other not_so named says ↦ let same : other ≡ which = cc (is, says) in
            subst (IsTripBroken m.diagram start before e) same (record { broken = not_so; named = named })
      ] in
      let long : length (map shown_at outs) ≡ k = length-map outs shown_at ∙ r.count in
      subst (IsTripReplay m log) (sym (report_is report (map shown_at outs) (Some (k + 1, which)) first second))
      (IsTripReplay.stops old e which (run_of has) (got_at log outs k (Step (Happening e)) r.count got) breaks (ap (λ
      (n : ℕ). let b : Option (ℕ × Which) = Some (n + 1, which) in b) (sym long)))

-- ---- the headline

run_headline : (m : Meaning) (log : List TripLogEvent) (out : List Shown) (s : TripScene) → IsStation m.diagram
    → Laws m → IsTripRunOf m log out s → TripHeadline m.diagram (trip_start_of m.diagram log) (trip_lines_of log out [])
run_headline m log out s station laws is = trip_headline m (trip_start_of m.diagram log)
    (trip_lines_of log out []) s station laws is.run

nothing_headline : (d : Diagram) (start : List Bool) → TripHeadline d start []
nothing_headline d start = record {
  decisions = tt;
  granted = λ i lt on. absurd cc;
  first_two = λ c r op v opened may. absurd opened;
  third = λ c r op v l before at none may. absurd at;
  sound = λ is. is;
  apart = λ c b differ one other. absurd (nothing_under_way c one);
}

replay_headline : (m : Meaning) (log : List TripLogEvent) (r : Replayed) → IsStation m.diagram → Laws m
    → IsTripReplay m log r → TripHeadline m.diagram (trip_start_of m.diagram log) (trip_lines_of log r.out [])
replay_headline m log r station laws (IsTripReplay.whole s is all none) = run_headline m log r.out s station laws is
replay_headline m log r station laws (IsTripReplay.stops s e which is got breaks broken) =
    run_headline m log r.out s station laws is
replay_headline m log r station laws (IsTripReplay.no_start none empty broken) =
    subst (TripHeadline m.diagram (trip_start_of m.diagram log)) (sym (ap (λ
    (ss : List Shown). trip_lines_of log ss []) empty ∙ lines_none log [])) (nothing_headline m.diagram
    (trip_start_of m.diagram log))

-- ---- the report is whole

ends_so : (m : Meaning) (log : List TripLogEvent) (r : Replayed) → IsTripReplay m log r → EndsSo r (length log)
ends_so m log r (IsTripReplay.whole s is all none) = record {
  lines = all ∙ sym (ap (λ (b : Option (ℕ × Which)). lines_shown b (length log)) none);
  within = omega (arith, all);
}
ends_so m log r (IsTripReplay.stops s e which is got breaks broken) =
    let lt = slice_get_within log (length r.out) _ got in
    record {
      lines = stopped_lines e which (length r.out) (length log) breaks.named
          ∙ sym (ap (λ (b : Option (ℕ × Which)). lines_shown b (length log)) broken);
      within = omega (arith, lt);
    }
ends_so m log r (IsTripReplay.no_start none empty broken) =
    let no_line : length r.out ≡ 0 = ap (λ (xs : List Shown). length xs) empty in
    record {
      lines = no_line ∙ sym (ap (λ (b : Option (ℕ × Which)). lines_shown b (length log)) broken);
      within = omega (arith, no_line);
    }

pub trip_whole_if : {E : Type 0} (m : Meaning) (d : Diagram) (log : List TripLogEvent) (r : Result Replayed E)
    → IfOk r (IsTripReplay m log) → IfOk r (λ (x : Replayed). All (IsShowable d) x.out)
    → IfOk r (λ (x : Replayed). x.count ≡ length log) → length log ≤ MOST_RECORDS
    → IfOk r (IsWholeReport d (length log))
trip_whole_if m d log (Ok x) replay showable counted few =
    whole_report d x (length log) (ends_so m log x replay) showable counted few
trip_whole_if m d log (Err e) replay showable counted few = tt

-- ---- of the station

pub start_with : (m : Meaning) (d : Diagram) (log : List TripLogEvent) (start : List Bool) (s : TripScene)
    → m.diagram ≡ d → start ≡ trip_start_of d log → IsTripStart d start s → ((v : List Bool) (t : TripScene)
    → IsTripStart m.diagram v t → TripFacts m t) → TripReplaying m log [] s 0
start_with m d log start s same is new facts =
    let it : IsTripStart m.diagram (trip_start_of m.diagram log) s = subst (λ (x : Diagram). IsTripStart x
    (trip_start_of x log) s) (sym same) (subst (λ (v : List Bool). IsTripStart d v s) is new) in
    start_replaying m log s it (facts (trip_start_of m.diagram log) s it)

pub told_in : (m : Meaning) (d : Diagram) (log : List TripLogEvent) (k : ℕ) (x : TripLogEvent) → m.diagram ≡ d
    → All (TripMayBeTold d) log → slice_get log k ≡ Some x → TripMayBeTold m.diagram x
told_in m d log k x same all got = subst (λ (y : Diagram). TripMayBeTold y x) (sym same) (each_at
    (TripMayBeTold d) log k x all got)

pub has_in : (m : Meaning) (d : Diagram) (log : List TripLogEvent) → m.diagram ≡ d → TripHasStart d log
    → TripHasStart m.diagram log
has_in m d log same has = subst (λ (y : Diagram). TripHasStart y log) (sym same) has

pub trip_headline_if : {E : Type 0} (m : Meaning) (d : Diagram) (log : List TripLogEvent) (r : Result Replayed E)
    → m.diagram ≡ d → IsStation m.diagram → Laws m → IfOk r (IsTripReplay m log) → IfOk r (λ x. TripHeadline d
    (trip_start_of d log) (trip_lines_of log x.out []))
trip_headline_if m d log (Ok x) same station laws is = subst (λ (y : Diagram). TripHeadline y (trip_start_of y log)
    (trip_lines_of log x.out [])) same (replay_headline m log x station laws is)
trip_headline_if m d log (Err e) same station laws is = tt

pub empty_trip_headline : (d : Diagram) (log : List TripLogEvent) (out : List Shown) → out ≡ []
    → TripHeadline d (trip_start_of d log) (trip_lines_of log out [])
empty_trip_headline d log out empty = subst (TripHeadline d (trip_start_of d log)) (sym (ap (λ
    (ss : List Shown). trip_lines_of log ss []) empty ∙ lines_none log [])) (nothing_headline d (trip_start_of d log))

pub trip_start_is_vector : (d : Diagram) (log : List TripLogEvent) (start : List Bool) → start ≡ trip_start_of d log
    → IsVector d start
trip_start_is_vector d log start is = start_is_vector d (map as_log log) start is
