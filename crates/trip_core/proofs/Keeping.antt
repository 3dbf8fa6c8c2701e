-- Whatever happens in a world with trips keeps its facts.
use Rattle.std.proofs.Common.{◌≡◌, ◌≢◌, ◌+◌, ◌<◌, ℕ, Bool, false, length, set, Some, None, Ok, refl, sym, subst, ap}
use Rattle.std.proofs.Common.{◌∙◌, inl, inr, arith, length-set, get_or-set_same, get_or-set_other}
use Rattle.std.specs.Prelude.{⊤}
use Rattle.std.proofs.lemmas.Bool.{cases_eq}
use Rattle.std.proofs.lemmas.Option.{slice_get_within}
use Rattle.station_graph.specs.Diagram.{Diagram, IsStation}
use Rattle.central_rules.specs.Meaning.{Meaning, Laws, bay_of}
use Rattle.bay_protocol.specs.declared.values.Grant.{Grant}
use Rattle.reservation_core.specs.Scene.{Scene, node, moves, stops}
use Rattle.reservation_core.specs.Concern.{Concern, concern}
use Rattle.reservation_core.specs.Held.{TruthFacts}
use Rattle.reservation_core.specs.Happens.{NodeSteps, InRange}
use Rattle.reservation_core.specs.World.{World, WorldRounds}
use Rattle.reservation_core.specs.declared.values.Position.{Position}
use Rattle.reservation_core.specs.declared.values.Position.TheVariants.{Open}
use Rattle.reservation_core.specs.declared.values.Which.{Which}
use Rattle.reservation_core.specs.declared.values.WorldEvent.{WorldEvent}
use Rattle.reservation_core.specs.declared.values.WorldOutcome.{WorldOutcome}
use Rattle.reservation_core.specs.declared.values.WorldOutcome.TheVariants.{Premise}
use Rattle.reservation_core.proofs.Sends.{facts_stops, facts_opens}
use Rattle.reservation_core.proofs.TruthChange.{facts_change}
use Rattle.reservation_core.proofs.Ways.{Way, way, Fair}
use Rattle.reservation_core.proofs.ForWorld.{rounds_kept}
use Rattle.trip_core.specs.declared.values.Note.{Note}
use Rattle.trip_core.specs.declared.values.TripEvent.{TripEvent}
use Rattle.trip_core.specs.declared.values.TripEvent.TheVariants.{Step, Trip}
use Rattle.trip_core.specs.Trips.{TripScene, IsBreaker, word_in, held_of, IsGoodNote, tripped_at}
use Rattle.trip_core.specs.Happens.{later, NotesTurn, NotesAfter, StepHappens, IsTripped, TripHappens, TripInRange}
use Rattle.trip_core.specs.Facts.{IsClocked, TripFacts}
use Rattle.trip_core.proofs.Good.{lost_is_good, good_later, good_elsewhere, good_tripped, weaker}
use Rattle.trip_core.proofs.TurnKeeping.{turn_keeps}

-- ---- a breaker trips

pub breaker_within : (d : Diagram) (i : ℕ) → IsBreaker d i → i < length d.switches
breaker_within d i is = slice_get_within d.switches i is.switch is.listed

trip_keeps : (m : Meaning) (old new : TripScene) (i : ℕ) (outcome : WorldOutcome) → TripFacts m old
    → IsBreaker m.diagram i → IsTripped old i new outcome → TripFacts m new
trip_keeps m old new i outcome facts breaker happens =
    let lt = breaker_within m.diagram i breaker in
    let w = old.world.scene in
    let inside : i < length w.truth = omega (arith, lt, facts.rounds.rounds.shape.truth) in
    let inside' : i < length old.tripped = omega (arith, lt, facts.clocked.each_tripped) in
    let past = facts.clocked.tripped i lt in
    subst (TripFacts m) (sym happens.scene) (record {
      clocked = record {
        each_sensed = facts.clocked.each_sensed;
        each_tripped = length-set old.tripped i (old.events + 1) ∙ facts.clocked.each_tripped;
        each_beside = facts.clocked.each_beside;
        each_known = facts.clocked.each_known;
        each_note = facts.clocked.each_note;
        tripped = λ j jlt. elim (cases_eq j i) [
          | inl same ↦ let now : tripped_at (set old.tripped i (old.events + 1)) j ≡ old.events + 1 = ap (λ
              (x : ℕ). tripped_at (set old.tripped i (old.events + 1)) x) same ∙ get_or-set_same old.tripped i
              (old.events + 1) 0 inside' in omega (arith, now)
          | inr other ↦ let before = facts.clocked.tripped j jlt in let same = get_or-set_other old.tripped i j
              (old.events + 1) 0 other in omega (arith, before, same)
        ];
      };
      rounds = record { rounds = facts_opens m w i facts.rounds.rounds; count = facts.rounds.count };
      truth = facts_change m Note word_in (IsGoodNote m.diagram w.truth old.tripped old.events) (IsGoodNote m.diagram
          (set w.truth i Open) (set old.tripped i (old.events + 1)) (old.events + 1)) w (set w.truth i Open)
          (set w.drives i false) (held_of m.diagram old) facts.rounds.rounds
          (λ j n jlt free good. good_tripped m.diagram w.truth old.tripped old.events i j n inside inside' breaker
          past good)
          (λ j n is. lost_is_good m.diagram (set w.truth i Open) (set old.tripped i (old.events + 1))
          (old.events + 1) j n is) facts.truth;
    })

-- ---- one event later, with the same notes

later_keeps : (m : Meaning) (old : TripScene) (w : World) → IsClocked m.diagram old
    → length w.scene.sent ≡ length old.world.scene.sent → WorldRounds m w → TruthFacts m Note word_in
    (IsGoodNote m.diagram w.scene.truth old.tripped (old.events + 1)) w.scene (held_of m.diagram (later old w))
    → TripFacts m (later old w)
later_keeps m old w clocked same now truth = record {
  clocked = record {
    each_sensed = clocked.each_sensed;
    each_tripped = clocked.each_tripped;
    each_beside = clocked.each_beside ∙ sym same;
    each_known = clocked.each_known;
    each_note = clocked.each_note;
    tripped = λ i lt. let past = clocked.tripped i lt in omega (arith, past);
  };
  rounds = now;
  truth = truth;
}

-- the world with another scene
abbrev in_scene : World → Scene → World
in_scene w scene = record { scene = scene; beside = w.beside }

later_in : (m : Meaning) (old : TripScene) (w : World) (scene : Scene) → w.scene ≡ scene
    → TripFacts m (later old (in_scene w scene)) → TripFacts m (later old w)
later_in m old w scene is = subst (λ (x : Scene). TripFacts m (later old (in_scene w x))) (sym is)

still_later : (m : Meaning) (old : TripScene) (w : World) → TripFacts m old → w.scene ≡ old.world.scene
    → WorldRounds m w → TripFacts m (later old w)
still_later m old w facts same now = later_in m old w old.world.scene same (later_keeps m old
    (in_scene w old.world.scene) facts.clocked refl (subst (λ (x : Scene). WorldRounds m (in_scene w x)) same now)
    (weaker m (IsGoodNote m.diagram old.world.scene.truth old.tripped old.events)
    (IsGoodNote m.diagram old.world.scene.truth old.tripped (old.events + 1)) old.world.scene
    (held_of m.diagram old) (good_later m.diagram old.world.scene.truth old.tripped old.events) facts.truth))

moved_later : (m : Meaning) (old : TripScene) (w : World) (i : ℕ) (g : Grant) (at : Position) (running : Bool)
    → TripFacts m old → w.scene ≡ moves old.world.scene i at running → WorldRounds m w
    → (node m.diagram old.world.scene (bay_of m.diagram i)).granted ≡ Some g → g.op.switch.0 ≡ i
    → TripFacts m (later old w)
moved_later m old w i g at running facts is now has switch = later_in m old w (moves old.world.scene i at running) is
    (later_keeps m old (in_scene w (moves old.world.scene i at running)) facts.clocked refl (subst (λ
    (x : Scene). WorldRounds m (in_scene w x)) is now)
    (facts_change m Note word_in (IsGoodNote m.diagram old.world.scene.truth old.tripped old.events)
    (IsGoodNote m.diagram (set old.world.scene.truth i at) old.tripped (old.events + 1)) old.world.scene
    (set old.world.scene.truth i at) (set old.world.scene.drives i running)
    (held_of m.diagram old) facts.rounds.rounds
    (λ j n jlt free good.
    let other : j ≢ i = λ same. free g (subst (λ (x : ℕ). (node m.diagram old.world.scene
    (bay_of m.diagram x)).granted ≡ Some g) (sym same) has) (switch ∙ sym same) in
    good_elsewhere m.diagram old.world.scene.truth old.tripped old.events i j at n other good)
    (λ j n is. lost_is_good m.diagram (set old.world.scene.truth i at) old.tripped
    (old.events + 1) j n is) facts.truth))

module _ (m : Meaning) (old new : TripScene) (event : WorldEvent) (outcome : WorldOutcome) (facts : TripFacts m old)
    (now : WorldRounds m new.world) (fine : (which : Which) → outcome ≢ Premise which) where
  passes_keeps : concern m.diagram old.world.scene event ≡ None → new ≡ later old new.world
      → Way m old.world.scene event new.world.scene outcome → TripFacts m new
  passes_keeps none is (Way.refused which same says) = absurd (fine which says)
  passes_keeps none is (Way.nothing same also fits) = subst (TripFacts m) (sym is)
      (still_later m old new.world facts same now)
  passes_keeps none is (Way.turns c some fair s) = absurd (cc (none, some))
  passes_keeps none is (Way.drives i g at running also lt has switch same says) = subst (TripFacts m) (sym is)
      (moved_later m old new.world i g at running facts same now has switch)
  passes_keeps none is (Way.cuts i c some fair s) = absurd (cc (none, some))

  turns_keeps : (c : Concern) → Laws m → concern m.diagram old.world.scene event ≡ Some c → NotesTurn m old c new
      → Way m old.world.scene event new.world.scene outcome → TripFacts m new
  turns_keeps c laws some notes (Way.refused which same says) = absurd (fine which says)
  turns_keeps c laws some notes (Way.nothing same none fits) = absurd (cc (none, some))
  turns_keeps c laws some notes (Way.drives i g at running none lt has switch same says) = absurd (cc (none, some))
  turns_keeps c laws some notes (Way.turns k also fair s) =
      let e : k ≡ c = cc (also, some) in
      turn_keeps m old new old.world.scene.drives c outcome laws facts.clocked facts.rounds.rounds now (subst
      (Fair m.diagram old.world.scene) e fair) (subst (λ
      (x : Concern). NodeSteps m old.world.scene x.bay x.event new.world.scene outcome) e s) notes
      (weaker m (IsGoodNote m.diagram old.world.scene.truth old.tripped old.events)
      (IsGoodNote m.diagram old.world.scene.truth old.tripped (old.events + 1)) old.world.scene
      (held_of m.diagram old) (good_later m.diagram old.world.scene.truth old.tripped old.events) facts.truth)
  turns_keeps c laws some notes (Way.cuts i k also fair s) =
      let e : k ≡ c = cc (also, some) in
      turn_keeps m old new (set old.world.scene.drives i false) c outcome laws facts.clocked
      (facts_stops m old.world.scene i facts.rounds.rounds) now (subst (Fair m.diagram old.world.scene) e fair)
      (subst (λ (x : Concern). NodeSteps m
      (stops old.world.scene i) x.bay x.event new.world.scene outcome) e s) notes
      (facts_change m Note word_in (IsGoodNote m.diagram old.world.scene.truth old.tripped old.events)
      (IsGoodNote m.diagram old.world.scene.truth old.tripped
      (old.events + 1)) old.world.scene old.world.scene.truth (set old.world.scene.drives i false)
      (held_of m.diagram old) facts.rounds.rounds
      (λ j n jlt free good. good_later m.diagram old.world.scene.truth old.tripped old.events j n good)
      (λ j n is. lost_is_good m.diagram old.world.scene.truth old.tripped (old.events + 1) j n is) facts.truth)

-- ---- whatever happens

module _ (m : Meaning) (station : IsStation m.diagram) (laws : Laws m) (old new : TripScene) (outcome : WorldOutcome)
    (facts : TripFacts m old) where
  rounds_now : (event : WorldEvent) → InRange m.diagram event → StepHappens m old event new outcome
      → WorldRounds m new.world
  rounds_now event range happens = rounds_kept {E = ⊤} m m.diagram refl station old.world new.world event range
      (Ok outcome) facts.rounds happens.happens happens.words tt

  step_keeps : (event : WorldEvent) → InRange m.diagram event → (happens : StepHappens m old event new outcome)
      → NotesAfter m old event new outcome → TripFacts m new
  step_keeps event range happens (NotesAfter.refused which says same) = subst (TripFacts m) (sym same) facts
  step_keeps event range happens (NotesAfter.passes fine none is) =
      passes_keeps m old new event outcome facts (rounds_now event range happens) fine none is
      (way m station old.world.scene new.world.scene outcome facts.rounds.rounds event range happens.happens)
  step_keeps event range happens (NotesAfter.turns c some fine notes) =
      turns_keeps m old new event outcome facts (rounds_now event range happens) fine c laws some notes
      (way m station old.world.scene new.world.scene outcome facts.rounds.rounds event range happens.happens)

  pub trip_happens_keeps : (event : TripEvent) → TripInRange m.diagram event → TripHappens m old event new outcome
      → TripFacts m new
  trip_happens_keeps (Step event) range happens = step_keeps event range happens happens.notes
  trip_happens_keeps (Trip i) range happens = trip_keeps m old new i.0 outcome facts range happens
