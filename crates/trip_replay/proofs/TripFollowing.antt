-- Each line of a run with trips leads to a scene that is what the lines say.
use Rattle.std.proofs.Common.{◌≡◌, ◌<◌, ◌==◌, ℕ, Bool, false, cond, List, [], ◌∷◌, length, Option, Some}
use Rattle.std.proofs.Common.{refl, sym, subst, ap, ◌∙◌, inl, inr, arith}
use Rattle.std.proofs.lemmas.Option.{slice_get_within}
use Rattle.ilk_base.specs.declared.words.Dbpos.{Dbpos}
use Rattle.ilk_base.specs.declared.words.Op.{Op}
use Rattle.station_graph.specs.Diagram.{IsStation}
use Rattle.station_graph.specs.Alike.{IsVector}
use Rattle.central_rules.specs.Meaning.{Meaning, Laws, bay_of}
use Rattle.bay_protocol.specs.declared.values.Grant.{Grant}
use Rattle.reservation_core.specs.Scene.{true_at, runs, ReadsAs, Resolves}
use Rattle.reservation_core.specs.Facts.{IsSoundTruth}
use Rattle.reservation_core.specs.Lines.{Shown, of_bay}
use Rattle.reservation_core.specs.History.{open_after, open_of, last_round, Opened}
use Rattle.reservation_core.specs.Hearing.{IsVerdictOn, heard}
use Rattle.reservation_core.specs.Runs.{Shows, Leads}
use Rattle.reservation_core.specs.Headline.{DecidesWell, OpenSince}
use Rattle.reservation_core.specs.declared.values.Position.{Position}
use Rattle.reservation_core.specs.declared.values.Position.TheVariants.{Open, Between}
use Rattle.reservation_core.specs.declared.values.WorldEvent.{WorldEvent}
use Rattle.reservation_core.specs.declared.values.WorldOutcome.{WorldOutcome}
use Rattle.log_replay.proofs.Links.{Spoken, start_linked, put_is}
use Rattle.log_replay.proofs.Leading.{speaks}
use Rattle.log_replay.proofs.DriveMoves.{happens_moves}
use Rattle.log_replay.proofs.LineDecisions.{lead_bays}
use Rattle.log_replay.proofs.RestingBays.{shows_it, decides_it}
use Rattle.log_replay.proofs.Truth.{idle_at}
use Rattle.log_replay.proofs.Since.{grant, stays_open, opens_since}
use Rattle.log_replay.proofs.Stops.{stops_at}
use Rattle.log_replay.proofs.Senders.{own_at}
use Rattle.log_replay.proofs.Apart.{AnswerTo, heard_next, hear_now}
use Rattle.trip_core.specs.declared.values.TripEvent.{TripEvent}
use Rattle.trip_core.specs.declared.values.TripEvent.TheVariants.{Step, Trip}
use Rattle.trip_core.specs.Trips.{TripScene}
use Rattle.trip_core.specs.Happens.{TripHappens, TripInRange}
use Rattle.trip_core.specs.Facts.{TripFacts}
use Rattle.trip_core.specs.TripLines.{TripLine, plain, trip_true, trip_drives}
use Rattle.trip_core.specs.TripRuns.{TripRun, TripMayBeTrue, TripDecides, TripDecisions, ObeysGapSince}
use Rattle.trip_core.specs.TripRuns.{IsTripSound, AtEachTrip, TripDrivesAreGranted, TripsHearNothing}
use Rattle.trip_core.proofs.Starting.{trip_starts}
use Rattle.trip_core.proofs.Keeping.{trip_happens_keeps, breaker_within}
use Rattle.trip_core.proofs.Obeying.{gap, trip_sound}

-- the facts, and what the lines say of nodes, messages, true positions and drives
pub record TripIs (m : Meaning) (start : List Bool) (lines : List TripLine) (s : TripScene) : Type 0 where
  pub facts : TripFacts m s
  pub said : Spoken m (plain lines) s.world.scene
  pub truth : (i : ℕ) → i < length m.diagram.switches
      → true_at s.world.scene.truth i ≡ trip_true m.diagram start lines i
  pub drives : (i : ℕ) → i < length m.diagram.switches → runs s.world.scene.drives i ≡ trip_drives lines i

abbrev pub trip_line : TripEvent → Shown → TripLine
trip_line e s = record { event = e; shown = s }

module _ (m : Meaning) (start : List Bool) (before : List TripLine) (old new : TripScene) (s : Shown)
    (outcome : WorldOutcome) (station : IsStation m.diagram) (was : TripIs m start before old)
    (shows : Shows outcome s) where
  is_after : (e : TripEvent) → TripFacts m new → TripInRange m.diagram e → TripHappens m old e new outcome
      → TripIs m start (trip_line e s ∷ before) new
  is_after (Step e) now range happens =
      let step = happens_moves m
      (plain before) old.world.scene new.world.scene s outcome was.facts.rounds.rounds was.said shows e range
      happens.happens in
      record {
        facts = now;
        said = speaks m
            (plain before) old.world.scene new.world.scene s outcome station was.facts.rounds.rounds
            now.rounds.rounds was.said shows e range happens.happens;
        truth = λ i lt. step.truth i lt (trip_true m.diagram start before i) (was.truth i lt);
        drives = λ i lt. step.drives i lt (trip_drives before i) (was.drives i lt);
      }
  is_after (Trip i) now range happens =
      let lt = breaker_within m.diagram i.0 range in
      let shape = was.facts.rounds.rounds.shape in
      record {
        facts = now;
        said = subst (λ (t : TripScene). Spoken m (plain before) t.world.scene) (sym happens.scene) (record {
          nodes =
              was.said.nodes;
          sent = was.said.sent;
          unsent = was.said.unsent;
        });
        truth = λ j less. ap (λ (t : TripScene). true_at t.world.scene.truth j) happens.scene
            ∙ put_is old.world.scene.truth i.0 j Open Between (omega (arith, lt, shape.truth)) ∙ ap (λ
            (p : Position). cond (i.0 == j) Open p) (was.truth j less);
        drives = λ j less. ap (λ (t : TripScene). runs t.world.scene.drives j) happens.scene
            ∙ put_is old.world.scene.drives i.0 j false false (omega (arith, lt, shape.drives)) ∙ ap (λ
            (p : Bool). cond (i.0 == j) false p) (was.drives j less);
      }

  -- the line as one without trips
  plain_leads : (e : WorldEvent) → TripInRange m.diagram (Step e) → TripHappens m old (Step e) new outcome
      → Leads m old.world.scene (record { event = e; shown = s }) new.world.scene
  plain_leads e range happens = record { range = range; outcome = outcome; happens = happens.happens; shows = shows }

  module _ (laws : Laws m) where
    pub well_at : (e : WorldEvent) → TripInRange m.diagram (Step e) → TripHappens m old (Step e) new outcome
        → DecidesWell m.diagram (plain before) (record { event = e; shown = s })
    well_at e range happens =
        let each = lead_bays m
        (plain before) old.world.scene new.world.scene s outcome station laws was.facts.rounds.rounds was.said
        shows e range happens.happens in
        record {
          shows = λ c o is. shows_it m (plain before) (record { event = e; shown = s }) c o (each c) is;
          no_other = λ c o is. decides_it m (plain before) (record { event = e; shown = s }) c o (each c) is;
        }

    decides_at : (e : TripEvent) → TripInRange m.diagram e → TripHappens m old e new outcome
        → TripDecides m.diagram e s (plain before)
    decides_at (Step e) range happens =
        let leads = plain_leads e range happens in
        let well = well_at e range happens in (
          well,
          stops_at m (plain before) (record { event = e; shown = s }) old.world.scene new.world.scene was.said well leads,
          own_at m old.world.scene new.world.scene (record { event = e; shown = s })
              was.facts.rounds.rounds.shape.named leads,
        )
    decides_at (Trip i) range happens = tt

    -- a verdict is shown for no bay with an open operation
    pub no_verdict : (e : WorldEvent) (c : ℕ) (g : Grant) (p : Opened) → TripInRange m.diagram (Step e)
        → TripHappens m old (Step e) new outcome → open_of (plain before) c ≡ Some g → ¬ IsVerdictOn (of_bay s c) p
    no_verdict e c g p range happens open_was d =
        let idle = idle_at m (plain before) (record {
          event = e;
          shown =
              s;
        }) old.world.scene new.world.scene c p was.facts.rounds.rounds was.said (plain_leads e range happens)
        ((well_at e range happens).no_other c p d) in
        let shut = (was.said.nodes c).granted in
        cc (open_was, sym shut ∙ idle)

    -- an operation that was granted and has not ended is the open one
    open_now : (e : TripEvent) (c r : ℕ) (op : Op) → TripInRange m.diagram e → TripHappens m old e new outcome
        → (OpenSince (plain before) c r op → open_of (plain before) c ≡ Some (grant r op))
        → OpenSince (plain (trip_line e s ∷ before)) c r op → open_of (plain (trip_line e s ∷ before)) c ≡ Some
        (grant r op)
    open_now (Trip i) c r op range happens earlier since = earlier since
    open_now (Step e) c r op range happens earlier (inl now) = rw now refl
    open_now (Step e) c r op range happens earlier (inr (since, ends)) =
        let open_was = earlier since in
        ap (λ (g : Option Grant). open_after (of_bay s c) g) open_was ∙ stays_open (of_bay s c) r op
        (λ p. no_verdict e c (grant r op) p range happens open_was) ends

-- ---- along the lines

module _ (m : Meaning) (start : List Bool) (station : IsStation m.diagram) (laws : Laws m) where
  pub trip_is : (lines : List TripLine) (s : TripScene) → TripRun m start lines s → TripIs m start lines s
  trip_is [] s run =
      let links = start_linked m start s.world.scene run.world.scene in
      record { facts = trip_starts m start s run; said = links.said; truth = links.truth; drives = links.drives }
  trip_is (l ∷ before) s (old, run, leads) =
      let was = trip_is before old run in
      is_after m start before old s l.shown leads.outcome station was leads.shows l.event
      (trip_happens_keeps m station laws old s leads.outcome was.facts l.event leads.range leads.happens)
      leads.range leads.happens

  pub trip_decides : (lines : List TripLine) (s : TripScene) → TripRun m start lines s
      → AtEachTrip (TripDecisions m.diagram) lines
  trip_decides [] s run = tt
  trip_decides (l ∷ before) s (old, run, leads) = (
    decides_at m start before old s l.shown leads.outcome station
        (trip_is before old run) leads.shows laws l.event leads.range leads.happens,
    trip_decides before old run,
  )

  pub trip_open : (lines : List TripLine) (s : TripScene) (c r : ℕ) (op : Op) → TripRun m start lines s
      → OpenSince (plain lines) c r op → open_of (plain lines) c ≡ Some (grant r op)
  trip_open [] s c r op run since = absurd since
  trip_open (l ∷ before) s c r op (old, run, leads) since =
      open_now m start before old s l.shown leads.outcome station
      (trip_is before old run) leads.shows laws l.event c r op leads.range leads.happens
      (trip_open before old c r op run) since

  -- ---- on the true positions

  pub to_scene : (lines : List TripLine) (s : TripScene) (v : List Bool) → TripIs m start lines s
      → TripMayBeTrue m.diagram start lines v → Resolves s.world.scene.truth v
  to_scene lines s v is may i closed at =
      let lt : i < length v = slice_get_within v i closed at in
      subst (λ (p : Position). ReadsAs p closed) (sym (is.truth i (omega (arith, lt, may.whole)))) (may.each i closed at)

  to_lines : (lines : List TripLine) (s : TripScene) (v : List Bool) → TripIs m start lines s → IsVector m.diagram v
      → Resolves s.world.scene.truth v → TripMayBeTrue m.diagram start lines v
  to_lines lines s v is whole resolves = record {
    whole = whole;
    each = λ i closed at. let lt : i < length v = slice_get_within v i closed at in
        subst (λ (p : Position). ReadsAs p closed) (is.truth i (omega (arith, lt, whole))) (resolves i closed at);
  }

  gap_since : (lines : List TripLine) (s : TripScene) → TripRun m start lines s → ObeysGapSince m.diagram start lines
  gap_since lines s run c r op v since may =
      let is = trip_is lines s run in
      gap m s is.facts c (grant r op) v ((is.said.nodes c).granted ∙ trip_open lines s c r op run since) may.whole
      (to_scene lines s v is may)

  pub trip_obeys : (lines : List TripLine) (s : TripScene) → TripRun m start lines s
      → AtEachTrip (ObeysGapSince m.diagram start) lines
  trip_obeys [] s run = gap_since [] s run
  trip_obeys (l ∷ before) s run = (gap_since (l ∷ before) s run, trip_obeys before run.0 run.1)

  -- ---- movements

  granted_now : (lines : List TripLine) (s : TripScene) → TripRun m start lines s
      → TripDrivesAreGranted m.diagram lines
  granted_now lines s run i lt on =
      let is = trip_is lines s run in
      let driven = is.facts.rounds.rounds.drives i lt (is.drives i lt ∙ on) in
      let opened = sym (is.said.nodes (bay_of m.diagram i)).granted ∙ driven.granted in (
        driven.grant.round,
        driven.grant.op,
        driven.switch,
        opens_since (plain lines) (bay_of m.diagram i) driven.grant opened,
      )

  pub trip_granted : (lines : List TripLine) (s : TripScene) → TripRun m start lines s
      → AtEachTrip (TripDrivesAreGranted m.diagram) lines
  trip_granted [] s run = granted_now [] s run
  trip_granted (l ∷ before) s run = (granted_now (l ∷ before) s run, trip_granted before run.0 run.1)

  -- ---- two rounds at once

  -- what is heard after a line was sent, if what was heard before it was: a trip sends and takes back nothing
  heard_line : (before : List TripLine) (old new : TripScene) (s : Shown) (outcome : WorldOutcome) (b c : ℕ)
      (words : List Dbpos) → TripIs m start before old → Shows outcome s
      → (heard m.diagram (plain before) c b ≡ Some words
      → AnswerTo m old.world.scene b c (last_round (plain before) c) words)
      → (e : TripEvent) → TripInRange m.diagram e → TripHappens m old e new outcome
      → heard m.diagram (plain (trip_line e s ∷ before)) c b ≡ Some words
      → AnswerTo m new.world.scene b c (last_round (plain (trip_line e s ∷ before)) c) words
  heard_line before old new s outcome b c words was shows earlier (Step e) range happens got =
      heard_next m (plain before) (record { event = e; shown = s }) old.world.scene new.world.scene b c words
      station was.facts.rounds.rounds was.said
      (record { range = range; outcome = outcome; happens = happens.happens; shows = shows }) earlier got
  heard_line before old new s outcome b c words was shows earlier (Trip i) range happens got =
      let a = earlier got in
      subst (λ (t : TripScene). AnswerTo m t.world.scene b c (last_round (plain before) c) words) (sym happens.scene)
      (record {
        frame = a.frame;
        summary = a.summary;
        there = a.there;
        from = a.from;
        to = a.to;
        round = a.round;
        body = a.body;
        sums = a.sums;
      })

  -- what is heard was sent: a trip sends and takes back nothing
  trip_heard : (lines : List TripLine) (s : TripScene) (b c : ℕ) (words : List Dbpos) → TripRun m start lines s
      → heard m.diagram (plain lines) c b ≡ Some words
      → AnswerTo m s.world.scene b c (last_round (plain lines) c) words
  trip_heard [] s b c words run is = absurd (cc is)
  trip_heard (l ∷ before) s b c words (old, run, leads) is =
      heard_line before old s l.shown leads.outcome b c words (trip_is before old run) leads.shows
      (λ got. trip_heard before old b c words run got) l.event leads.range leads.happens is

  hears_nothing : (lines : List TripLine) (s : TripScene) → TripRun m start lines s → TripsHearNothing m.diagram lines
  hears_nothing lines s run =
      let is = trip_is lines s run in
      hear_now m (plain lines) s.world.scene station is.facts.rounds.rounds is.said
      (λ b c words got. trip_heard lines s b c words run got)

  pub trip_apart : (lines : List TripLine) (s : TripScene) → TripRun m start lines s
      → AtEachTrip (TripsHearNothing m.diagram) lines
  trip_apart [] s run = hears_nothing [] s run
  trip_apart (l ∷ before) s run = (hears_nothing (l ∷ before) s run, trip_apart before run.0 run.1)

  -- ---- soundness

  sound_scene : (lines : List TripLine) (s : TripScene) → TripRun m start lines s → IsTripSound m.diagram start []
      → IsSoundTruth m.diagram s.world.scene.truth
  sound_scene [] s run sound = λ v whole resolves. sound v (to_lines [] s v (trip_is [] s run) whole resolves)
  sound_scene (l ∷ before) s (old, run, leads) sound = trip_sound m old s l.event leads.outcome
      (trip_is before old run).facts leads.range leads.happens (sound_scene before old run sound)

  sound_now : (lines : List TripLine) (s : TripScene) → TripRun m start lines s → IsTripSound m.diagram start []
      → IsTripSound m.diagram start lines
  sound_now lines s run sound v may = sound_scene lines s run sound v may.whole (to_scene lines s v
      (trip_is lines s run) may)

  pub trip_kept_sound : (lines : List TripLine) (s : TripScene) → TripRun m start lines s
      → IsTripSound m.diagram start [] → AtEachTrip (IsTripSound m.diagram start) lines
  trip_kept_sound [] s run sound = sound
  trip_kept_sound (l ∷ before) s run sound = (
    sound_now
        (l ∷ before) s run sound,
    trip_kept_sound before run.0 run.1 sound,
  )
