-- What follows of a step, or of want of memory.
use Rattle.std.proofs.Common.{◌≡◌, ◌+◌, ◌<◌, ◌≤◌, ◌↔◌, ℕ, length, Result, Ok, Err, sym}
use Rattle.std.proofs.Common.{subst, ap, arith, lit<}
use Rattle.std.specs.Prelude.{IfOk, OnErr}
use Rattle.station_graph.specs.Diagram.{Diagram, IsStation}
use Rattle.station_graph.specs.declared.limits.TheConstants.{BAYS}
use Rattle.central_rules.specs.Meaning.{Meaning, Laws}
use Rattle.reservation_core.specs.Facts.{IsSoundTruth}
use Rattle.reservation_core.specs.World.{OutputFits}
use Rattle.reservation_core.specs.declared.values.Which.{Which}
use Rattle.reservation_core.specs.declared.values.WorldEvent.{WorldEvent}
use Rattle.reservation_core.specs.declared.values.WorldOutcome.{WorldOutcome}
use Rattle.reservation_core.specs.declared.values.WorldOutcome.TheVariants.{Premise, Drive}
use Rattle.reservation_core.proofs.Exact.{exact}
use Rattle.reservation_core.proofs.Gives.{gives}
use Rattle.trip_core.specs.declared.values.TripEvent.{TripEvent}
use Rattle.trip_core.specs.declared.values.TripEvent.TheVariants.{Step, Trip}
use Rattle.trip_core.specs.Trips.{TripScene}
use Rattle.trip_core.specs.Happens.{NotesAfter, TripHappens, TripInRange, BreaksTripPremise}
use Rattle.trip_core.specs.Facts.{TripFacts}
use Rattle.trip_core.proofs.Keeping.{trip_happens_keeps}
use Rattle.trip_core.proofs.Obeying.{trip_sound}

still_few : (a b : ℕ) → a ≡ b → a < b + BAYS
still_few a b is = let positive : 0 < BAYS = lit< tt in omega (arith, is, positive)

module _ (m : Meaning) (station : IsStation m.diagram) (old new : TripScene) (out : WorldOutcome)
    (facts : TripFacts m old) where
  notes_same : (event : WorldEvent) (which : Which) → NotesAfter m old event new out → out ≡ Premise which → new ≡ old
  notes_same event which (NotesAfter.refused other says same) is = same
  notes_same event which (NotesAfter.passes fine none same) is = absurd (fine which is)
  notes_same event which (NotesAfter.turns c some fine notes) is = absurd (fine which is)

  notes_count : (event : WorldEvent) → NotesAfter m old event new out → new.events ≤ old.events + 1
  notes_count event (NotesAfter.refused other says same) = let e = ap (λ (s : TripScene). s.events) same in
      omega (arith, e)
  notes_count event (NotesAfter.passes fine none same) = let e = ap (λ (s : TripScene). s.events) same in
      omega (arith, e)
  notes_count event (NotesAfter.turns c some fine notes) = omega (arith, notes.events)

  never_premise : (which : Which) → out ≡ Drive → out ≡ Premise which → ⊥
  never_premise which says is = cc (says, is)

  exactly : (event : TripEvent) (which : Which) → TripHappens m old event new out
      → (out ≡ Premise which) ↔ BreaksTripPremise m.diagram old event which
  exactly (Step event) which happens = exact m old.world.scene new.world.scene out which event happens.happens
  exactly (Trip i) which happens = (λ is. never_premise which happens.says is, λ never. absurd never)

  same_after : (event : TripEvent) (which : Which) → TripHappens m old event new out → out ≡ Premise which → new ≡ old
  same_after (Step event) which happens is = notes_same event which happens.notes is
  same_after (Trip i) which happens is = absurd (never_premise which happens.says is)

  output_of : (event : TripEvent) → TripInRange m.diagram event → TripHappens m old event new out
      → OutputFits m.diagram out
  output_of (Step event) range happens =
      (gives m station old.world.scene new.world.scene event out facts.rounds.rounds range happens.happens).output
  output_of (Trip i) range happens = rw happens.says tt

  few_of : (event : TripEvent) → TripInRange m.diagram event → TripHappens m old event new out
      → length new.world.scene.sent < length old.world.scene.sent + BAYS
  few_of (Step event) range happens =
      (gives m station old.world.scene new.world.scene event out facts.rounds.rounds range happens.happens).few
  few_of (Trip i) range happens = still_few (length new.world.scene.sent) (length old.world.scene.sent) (ap (λ
      (s : TripScene). length s.world.scene.sent) happens.scene)

  count_of : (event : TripEvent) → TripHappens m old event new out → new.events ≤ old.events + 1
  count_of (Step event) happens = notes_count event happens.notes
  count_of (Trip i) happens = let e = ap (λ (s : TripScene). s.events) happens.scene in omega (arith, e)

range_in : (m : Meaning) (d : Diagram) (event : TripEvent) → m.diagram ≡ d → TripInRange d event
    → TripInRange m.diagram event
range_in m d event same = subst (λ (x : Diagram). TripInRange x event) (sym same)

module _ {E : Type 0} (m : Meaning) (d : Diagram) (same : m.diagram ≡ d) (station : IsStation m.diagram)
    (old new : TripScene) (event : TripEvent) (range : TripInRange d event) (facts : TripFacts m old) where
  abbrev Steps : Result WorldOutcome E → Type 0
  Steps r = IfOk r (λ out. TripHappens m old event new out)

  abbrev Unchanged : Result WorldOutcome E → Type 0
  Unchanged r = OnErr r (new ≡ old)

  pub premises : (r : Result WorldOutcome E) → Steps r → IfOk r (λ out. (which : Which)
      → (out ≡ Premise which) ↔ BreaksTripPremise d old event which)
  premises (Ok out) happens = λ which. subst (λ (x : Diagram).
      (out ≡ Premise which) ↔ BreaksTripPremise x old event which) same
      (exactly m station old new out facts event which happens)
  premises (Err e) happens = tt

  pub unchanged : (r : Result WorldOutcome E) → Steps r → IfOk r (λ out. (which : Which) → out ≡ Premise which
      → new ≡ old)
  unchanged (Ok out) happens = λ which is. same_after m station old new out facts event which happens is
  unchanged (Err e) happens = tt

  pub outputs : (r : Result WorldOutcome E) → Steps r → IfOk r (OutputFits d)
  outputs (Ok out) happens = subst (λ (x : Diagram). OutputFits x out) same
      (output_of m station old new out facts event (range_in m d event same range) happens)
  outputs (Err e) happens = tt

  pub few : (r : Result WorldOutcome E) → Steps r → Unchanged r
      → length new.world.scene.sent < length old.world.scene.sent + BAYS
  few (Ok out) happens kept = few_of m station old new out facts event (range_in m d event same range) happens
  few (Err e) happens kept = still_few (length new.world.scene.sent) (length old.world.scene.sent) (ap (λ
      (s : TripScene). length s.world.scene.sent) kept)

  pub counted : (r : Result WorldOutcome E) → Steps r → Unchanged r → new.events ≤ old.events + 1
  counted (Ok out) happens kept = count_of m station old new out facts event happens
  counted (Err e) happens kept = let same_count = ap (λ (s : TripScene). s.events) kept in omega (arith, same_count)

  pub facts_now : Laws m → (r : Result WorldOutcome E) → Steps r → Unchanged r → TripFacts m new
  facts_now laws (Ok out) happens kept = trip_happens_keeps m station laws old new out facts event
      (range_in m d event same range) happens
  facts_now laws (Err e) happens kept = subst (TripFacts m) (sym kept) facts

  pub sound_now : (r : Result WorldOutcome E) → Steps r → Unchanged r → IsSoundTruth d old.world.scene.truth
      → IsSoundTruth d new.world.scene.truth
  sound_now (Ok out) happens kept sound =
      subst (λ (x : Diagram). IsSoundTruth x new.world.scene.truth) same (trip_sound m old new event out facts
      (range_in m d event same range) happens (subst (λ (x : Diagram). IsSoundTruth x old.world.scene.truth)
      (sym same) sound))
  sound_now (Err e) happens kept sound = subst (λ (s : TripScene). IsSoundTruth d s.world.scene.truth) (sym kept) sound
