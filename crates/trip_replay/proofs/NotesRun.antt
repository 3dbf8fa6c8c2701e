-- Along the lines of a run with trips the notes stay what the lines say.
use Rattle.std.proofs.Common.{◌⊎◌, ◌≡◌, ◌≢◌, ◌++◌, ℕ, Bool, List, [], ◌∷◌, length, get_or, Some, None, refl, sym, subst}
use Rattle.std.proofs.Common.{ap, ◌∙◌, inl, inr, arith}
use Rattle.ilk_base.specs.declared.words.Op.{Op}
use Rattle.station_graph.specs.Diagram.{IsStation}
use Rattle.central_rules.specs.Meaning.{Meaning, Laws}
use Rattle.bay_frames.specs.declared.frame.Frame.{Frame}
use Rattle.bay_protocol.specs.declared.values.Outcome.{Outcome}
use Rattle.bay_protocol.specs.declared.values.Outcome.TheVariants.{Granted}
use Rattle.bay_protocol.specs.State.{State}
use Rattle.bay_protocol.specs.Step.{Step as Stepping}
use Rattle.reservation_core.specs.Scene.{Scene, node, stops}
use Rattle.reservation_core.specs.Concern.{Concern, concern}
use Rattle.reservation_core.specs.Happens.{InRange, NodeSteps}
use Rattle.reservation_core.specs.RoundFacts.{RoundFacts}
use Rattle.reservation_core.specs.Lines.{Shown, of_bay}
use Rattle.reservation_core.specs.History.{open_of, Opened}
use Rattle.reservation_core.specs.Hearing.{IsVerdictOn}
use Rattle.reservation_core.specs.Runs.{Shows}
use Rattle.reservation_core.specs.Headline.{EndsIt, OpenSince}
use Rattle.reservation_core.specs.declared.values.Which.{Which}
use Rattle.reservation_core.specs.declared.values.WorldEvent.{WorldEvent}
use Rattle.reservation_core.specs.declared.values.WorldOutcome.{WorldOutcome}
use Rattle.reservation_core.specs.declared.values.WorldOutcome.TheVariants.{Premise}
use Rattle.reservation_core.proofs.Nodes.{node_here, node_other}
use Rattle.reservation_core.proofs.Rounds.{node_there}
use Rattle.reservation_core.proofs.Sends.{facts_stops}
use Rattle.reservation_core.proofs.Starting.{fresh, no_message}
use Rattle.reservation_core.proofs.Ways.{Way, way, Fair}
use Rattle.log_replay.proofs.Basic.{of_quiet}
use Rattle.log_replay.proofs.Links.{TurnShown, turn_shown, drive_shown}
use Rattle.log_replay.proofs.Since.{grant}
use Rattle.trip_core.specs.declared.values.Note.{Note}
use Rattle.trip_core.specs.declared.values.TripEvent.{TripEvent}
use Rattle.trip_core.specs.declared.values.TripEvent.TheVariants.{Step, Trip}
use Rattle.ilk_base.specs.declared.words.Dbpos.TheVariants.{On}
use Rattle.trip_core.specs.Trips.{TripScene, note_at}
use Rattle.trip_core.specs.Start.{IsTripStart}
use Rattle.trip_core.specs.Happens.{NotesTurn, NotesAfter, StepHappens, IsTripped, TripHappens, TripInRange}
use Rattle.trip_core.specs.TripLines.{TripLine, plain}
use Rattle.trip_core.specs.Used.{known_note, GrantedAt}
use Rattle.trip_core.specs.TripRuns.{TripRun, TripLeads, ObeysLoadSince, AtEachTrip}
use Rattle.trip_core.proofs.Starting.{get_same}
use Rattle.trip_core.proofs.Keeping.{breaker_within}
use Rattle.trip_core.proofs.Obeying.{load}
use Rattle.trip_replay.proofs.TripFollowing.{TripIs, trip_line, trip_is, trip_open, to_scene, no_verdict, well_at}
use Rattle.trip_replay.proofs.NotesAre.{NotesAre}
use Rattle.trip_replay.proofs.NotesTurns.{delivered_or}
use Rattle.trip_replay.proofs.NotesStep.{turn_notes}
use Rattle.trip_replay.proofs.NotesPassed.{passes, same_node, passed_notes, tripped_notes}

-- ---- the start

start_notes : (m : Meaning) (start : List Bool) (s : TripScene) → IsTripStart m.diagram start s → NotesAre m [] s
start_notes m start s is =
    let w = s.world.scene in
    let new = is.world.scene in
    record {
      events = is.events;
      sensed = λ i lt. ap (λ (x : List ℕ). get_or x i 0) is.sensed ∙ get_same (length m.diagram.switches) i 0;
      tripped = λ i lt. ap (λ (x : List ℕ). get_or x i 0) is.tripped ∙ get_same (length m.diagram.switches) i 0;
      beside = λ k f t got. absurd (no_message m start w new k f got);
      collected = λ c g has. let none : (node m.diagram w c).collecting ≡ None = ap (λ (n : State). n.collecting)
          (fresh m start w new c) in absurd (cc (has, none));
      granted = λ c g has. let none : (node m.diagram w c).granted ≡ None = ap (λ (n : State). n.granted)
          (fresh m start w new c) in absurd (cc (has, none));
    }

-- ---- a step of a node

module _ (m : Meaning) (start : List Bool) (before : List TripLine) (old new : TripScene) (s : Shown)
    (outcome : WorldOutcome) (e : WorldEvent) (c : Concern) (station : IsStation m.diagram) (laws : Laws m)
    (was : TripIs m start before old) (now : TripIs m start (trip_line (Step e) s ∷ before) new)
    (said : NotesAre m before old) (notes : NotesTurn m old c new) (shows : Shows outcome s)
    (range : InRange m.diagram e) (happens : StepHappens m old e new outcome)
    (some : concern m.diagram old.world.scene e ≡ Some c) (fine : (which : Which) → outcome ≢ Premise which) where
  stepped : (w : Scene) → w.nodes ≡ old.world.scene.nodes → w.sent ≡ old.world.scene.sent → RoundFacts m w
      → Fair m.diagram old.world.scene c → NodeSteps m w c.bay c.event new.world.scene outcome
      → NotesAre m (trip_line (Step e) s ∷ before) new
  stepped w nodes sent rounds fair t =
      let same = same_node m.diagram old.world.scene w in
      let within = node_there m w c.bay rounds fair.bay in
      let shown_so = turn_shown (length w.sent) c.bay (node m.diagram w c.bay) t.turn outcome s t.says shows in
      turn_notes (record {
        station = station;
        was = was;
        now = now;
        said = said;
        notes = notes;
        range = range;
        some = some;
        comes = delivered_or m old.world.scene new.world.scene e c outcome fine some happens.happens;
        bay = fair.bay;
        step = subst (λ (n : State). Stepping m m.diagram n c.event t.turn) (same c.bay nodes) t.step;
        sent = ap (λ (x : Scene). x.sent) t.world ∙ ap (λ (x : List Frame). x ++ t.turn.frames) sent;
        here = ap (λ (x : Scene). node m.diagram x c.bay) t.world ∙ node_here m.diagram w c.bay t.turn.new within;
        away = λ b other. ap (λ (x : Scene). node m.diagram x b) t.world
            ∙ (node_other m.diagram w c.bay t.turn.new b other ∙ same b nodes);
        shows = subst (λ (k : ℕ). TurnShown k c.bay t.turn s) (ap (λ (x : List Frame). length x) sent) shown_so;
        decides = well_at m start before old new s outcome station was shows laws e range happens;
      })

  turns : Way m old.world.scene e new.world.scene outcome → NotesAre m (trip_line (Step e) s ∷ before) new
  turns (Way.refused which same says) = absurd (fine which says)
  turns (Way.nothing same none fits) = absurd (cc (none, some))
  turns (Way.drives i g at running none lt has switch same says) = absurd (cc (none, some))
  turns (Way.turns k also fair t) =
      let one : k ≡ c = cc (also, some) in
      stepped old.world.scene refl refl was.facts.rounds.rounds (subst (Fair m.diagram old.world.scene) one fair)
      (subst (λ (x : Concern). NodeSteps m old.world.scene x.bay x.event new.world.scene outcome) one t)
  turns (Way.cuts i k also fair t) =
      let one : k ≡ c = cc (also, some) in
      stepped (stops old.world.scene i) refl refl (facts_stops m old.world.scene i was.facts.rounds.rounds) (subst
      (Fair m.diagram old.world.scene) one fair) (subst (λ (x : Concern). NodeSteps m
      (stops old.world.scene i) x.bay x.event new.world.scene outcome) one t)

-- ---- along the lines

not_premise : (outcome : WorldOutcome) (s : Shown) (which : Which) → Shows outcome s → outcome ≢ Premise which
not_premise outcome s which shows is = subst (λ (o : WorldOutcome). Shows o s) is shows

module _ (m : Meaning) (start : List Bool) (station : IsStation m.diagram) (laws : Laws m) where
  step_notes : (before : List TripLine) (old new : TripScene) (s : Shown) (outcome : WorldOutcome) (e : WorldEvent)
      → TripIs m start before old → TripIs m start (trip_line (Step e) s ∷ before) new → NotesAre m before old
      → Shows outcome s → InRange m.diagram e → (happens : StepHappens m old e new outcome)
      → NotesAfter m old e new outcome → NotesAre m (trip_line (Step e) s ∷ before) new
  step_notes before old new s outcome e was now said shows range happens (NotesAfter.refused which says same) = absurd
      (not_premise outcome s which shows says)
  step_notes before old new s outcome e was now said shows range happens (NotesAfter.passes fine none is) =
      subst (NotesAre m (trip_line (Step e) s ∷ before)) (sym is) (passed_notes m before old s said e new.world
      (passes m old.world.scene new.world.scene e s outcome fine none happens.happens shows))
  step_notes before old new s outcome e was now said shows range happens (NotesAfter.turns c some fine notes) =
      turns m start before old new s outcome e c station laws was now said notes shows range happens some fine
      (way m station old.world.scene new.world.scene outcome was.facts.rounds.rounds e range happens.happens)

  line_notes : (before : List TripLine) (old new : TripScene) (s : Shown) (outcome : WorldOutcome) (e : TripEvent)
      → TripIs m start before old → TripIs m start (trip_line e s ∷ before) new → NotesAre m before old
      → Shows outcome s → TripInRange m.diagram e → TripHappens m old e new outcome
      → NotesAre m (trip_line e s ∷ before) new
  line_notes before old new s outcome (Step e) was now said shows range happens =
      step_notes before old new s outcome e was now said shows range happens happens.notes
  line_notes before old new s outcome (Trip i) was now said shows range happens =
      tripped_notes m before old s said new i outcome range was.facts.clocked.each_tripped happens
      (drive_shown new.world.scene new.world.scene outcome s happens.says shows)

  notes_are : (lines : List TripLine) (s : TripScene) → TripRun m start lines s → NotesAre m lines s
  notes_are [] s run = start_notes m start s run
  notes_are (l ∷ before) s (old, run, leads) =
      line_notes before old s l.shown leads.outcome l.event (trip_is m start station laws before old run)
      (trip_is m start station laws (l ∷ before) s (old, run, leads))
      (notes_are before old run) leads.shows leads.range leads.happens

  -- ---- one grant

  -- nothing is granted at a trip
  quiet_trip : (old new : TripScene) (s : Shown) (outcome : WorldOutcome) (i c r : ℕ) (op : Op)
      → IsTripped old i new outcome → Shows outcome s → of_bay s c ≢ Granted r op
  quiet_trip old new s outcome i c r op happens shows is = cc (
    is,
    of_quiet s c
        (drive_shown new.world.scene new.world.scene outcome s happens.says shows).outcome,
  )

  since_at : (e : TripEvent) (before : List TripLine) (old new : TripScene) (s : Shown) (outcome : WorldOutcome)
      (c r : ℕ) (op : Op) → TripHappens m old e new outcome → Shows outcome s → (of_bay s c ≡ Granted r op) ⊎
      (OpenSince (plain before) c r op × (¬ EndsIt (of_bay s c) r)) → OpenSince (plain (trip_line e s ∷ before)) c r op
  since_at (Step e) before old new s outcome c r op happens shows at = at
  since_at (Trip i) before old new s outcome c r op happens shows (inl grants) = absurd
      (quiet_trip old new s outcome i.0 c r op happens shows grants)
  since_at (Trip i) before old new s outcome c r op happens shows (inr since) = since.0

  granted_since : (lines : List TripLine) (s : TripScene) (c r : ℕ) (op : Op) (l : TripLine)
      (before : List TripLine) → TripRun m start lines s → GrantedAt lines c r op l before
      → OpenSince (plain lines) c r op
  granted_since [] s c r op l before run at = absurd at
  granted_since (x ∷ rest) s c r op l before (old, run, leads) (inl now) =
      since_at x.event rest old s x.shown leads.outcome c r op leads.happens leads.shows (inl now.0)
  granted_since (x ∷ rest) s c r op l before (old, run, leads) (inr earlier) =
      since_at x.event rest old s x.shown leads.outcome c r op leads.happens leads.shows (inr
      (granted_since rest old c r op l before run earlier.0, earlier.1))

  -- no grant is shown for a bay whose operation is open
  never_again : (e : TripEvent) (rest : List TripLine) (old new : TripScene) (s : Shown) (outcome : WorldOutcome)
      (c r : ℕ) (op : Op) → TripIs m start rest old → TripInRange m.diagram e → TripHappens m old e new outcome
      → Shows outcome s → open_of (plain rest) c ≡ Some (grant r op) → of_bay s c ≢ Granted r op
  never_again (Step e) rest old new s outcome c r op was range happens shows opened is =
      let p : Opened = record { round = r; op = op } in
      no_verdict m start rest old new s outcome station was shows laws e c (grant r op) p range happens opened (subst
      (λ (o : Outcome). IsVerdictOn o p) (sym is) (refl, refl))
  never_again (Trip i) rest old new s outcome c r op was range happens shows opened is =
      quiet_trip old new s outcome i.0 c r op happens shows is

  again_at : (x : TripLine) (rest : List TripLine) (s old : TripScene) (c r : ℕ) (op : Op) (l : TripLine)
      (before : List TripLine) → TripRun m start rest old → TripLeads m old x s → GrantedAt rest c r op l before
      → of_bay x.shown c ≢ Granted r op
  again_at x rest s old c r op l before run leads at =
      never_again x.event rest old s x.shown leads.outcome c r op
      (trip_is m start station laws rest old run) leads.range leads.happens leads.shows
      (trip_open m start station laws rest old c r op run (granted_since rest old c r op l before run at))

  -- an operation that is open was granted at one line
  one_grant : (lines : List TripLine) (s : TripScene) (c r : ℕ) (op : Op) (l k : TripLine)
      (before earlier : List TripLine) → TripRun m start lines s → GrantedAt lines c r op l before
      → GrantedAt lines c r op k earlier → (l ≡ k) × (before ≡ earlier)
  one_grant [] s c r op l k before earlier run one other = absurd one
  one_grant (x ∷ rest) s c r op l k before earlier (old, run, leads) (inl one) (inl other) = (
    sym one.1
        ∙ other.1,
    sym one.2 ∙ other.2,
  )
  one_grant (x ∷ rest) s c r op l k before earlier (old, run, leads) (inl one) (inr other) = absurd
      (again_at x rest s old c r op k earlier run leads other.0 one.0)
  one_grant (x ∷ rest) s c r op l k before earlier (old, run, leads) (inr one) (inl other) = absurd
      (again_at x rest s old c r op l before run leads one.0 other.0)
  one_grant (x ∷ rest) s c r op l k before earlier (old, run, leads) (inr one) (inr other) =
      one_grant rest old c r op l k before earlier run one.0 other.0

  -- ---- the third rule

  load_since : (lines : List TripLine) (s : TripScene) → TripRun m start lines s → ObeysLoadSince m.diagram start lines
  load_since lines s run c r op v l before at none may =
      let is = trip_is m start station laws lines s run in
      let notes = notes_are lines s run in
      let has = (is.said.nodes c).granted ∙ trip_open m start station laws lines s c r op run
      (granted_since lines s c r op l before run at) in
      let knew = notes.granted c (grant r op) has in
      let one = one_grant lines s c r op knew.l l knew.before before run knew.at at in
      load m s is.facts c (grant r op) v has may.whole (to_scene m start station laws lines s v is may)
      (λ i breaker matters other valid.
      let lt = breaker_within m.diagram i breaker in
      let same : note_at s.known c i ≡ known_note m.diagram l before c i = knew.notes i lt ∙ (ap (λ
      (x : TripLine). known_note m.diagram x knew.before c i) one.0 ∙ ap (λ
      (x : List TripLine). known_note m.diagram l x c i) one.1) in
      let past = none i breaker matters other (subst (λ (n : Note). n.word ≡ On) same valid) in
      let tripped = notes.tripped i lt in
      let at_note = ap (λ (n : Note). n.at) same in
      omega (arith, past, tripped, at_note))

  pub trip_loads : (lines : List TripLine) (s : TripScene) → TripRun m start lines s
      → AtEachTrip (ObeysLoadSince m.diagram start) lines
  trip_loads [] s run = load_since [] s run
  trip_loads (l ∷ before) s run = (load_since (l ∷ before) s run, trip_loads before run.0 run.1)
