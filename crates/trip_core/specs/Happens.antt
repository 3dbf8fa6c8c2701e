-- What may happen in a world with trips. Throughout, m is the meaning of the judge's summaries, old the world
-- before the event, and new the one after it.
use Rattle.std.specs.Prelude.{◌≡◌, ◌≢◌, ◌+◌, ◌<◌, ◌≤◌, ◌==◌, ℕ, false, List, [], length, slice_get, slice_set}
use Rattle.std.specs.Prelude.{slice_index_or, is_some, Option, Some, None, if◌then◌else◌}
use Rattle.station_graph.specs.Diagram.{Diagram}
use Rattle.central_rules.specs.Meaning.{Meaning, bay_of}
use Rattle.bay_frames.specs.declared.frame.Frame.{Frame}
use Rattle.bay_frames.specs.declared.frame.Body.TheVariants.{Answer}
use Rattle.bay_protocol.specs.declared.values.NodeEvent.{NodeEvent}
use Rattle.bay_protocol.specs.declared.values.NodeEvent.TheVariants.{Command as Commanded, Sense as Sensing}
use Rattle.bay_protocol.specs.declared.values.NodeEvent.TheVariants.{Frame as Arrival, Tick as Ticking}
use Rattle.bay_protocol.specs.declared.values.NodeEvent.TheVariants.{Withdraw as Withdrawing, Restart as Restarting}
use Rattle.bay_protocol.specs.declared.values.NodeEvent.TheVariants.{Cut as Cutting}
use Rattle.bay_protocol.specs.State.{State}
use Rattle.reservation_core.specs.Scene.{node, moves}
use Rattle.reservation_core.specs.Concern.{Concern, concern}
use Rattle.reservation_core.specs.Happens.{Happens, InRange}
use Rattle.reservation_core.specs.Premises.{BreaksPremise}
use Rattle.reservation_core.specs.World.{World, KeepsWords}
use Rattle.reservation_core.specs.declared.values.Position.TheVariants.{Open}
use Rattle.reservation_core.specs.declared.values.Which.{Which}
use Rattle.reservation_core.specs.declared.values.WorldEvent.{WorldEvent}
use Rattle.reservation_core.specs.declared.values.WorldOutcome.{WorldOutcome}
use Rattle.reservation_core.specs.declared.values.WorldOutcome.TheVariants.{Premise, Drive}
use Rattle.trip_core.specs.declared.values.Note.{Note}
use Rattle.trip_core.specs.declared.values.TripEvent.{TripEvent}
use Rattle.trip_core.specs.declared.values.TripEvent.TheVariants.{Step, Trip}
use Rattle.trip_core.specs.Trips.{TripScene, IsBreaker, note_at, own_note}
use Rattle.trip_core.specs.Learning.{CountsOf, learned_note}

-- One event later, with this world and the same notes.
abbrev pub later : TripScene → World → TripScene
later s w = record {
  world = w;
  sensed = s.sensed;
  tripped = s.tripped;
  beside = s.beside;
  known = s.known;
  events = s.events + 1;
}

-- When the words in the nodes were read, after event number `now`.
abbrev pub sensed_after : NodeEvent → List ℕ → ℕ → List ℕ
sensed_after (Sensing i word) sensed now = slice_set sensed i.0 now
sensed_after (Commanded op) sensed now = sensed
sensed_after (Arrival f) sensed now = sensed
sensed_after Ticking sensed now = sensed
sensed_after Withdrawing sensed now = sensed
sensed_after Restarting sensed now = sensed
sensed_after (Cutting i) sensed now = sensed

-- What bay b knows of switch i after a step of the node of c, where the Answer of bay `from` counts.
abbrev pub known_then : Meaning → TripScene → Concern → Option ℕ → State → ℕ → ℕ → Note
known_then m old c from new b i =
    if b == c.bay
    then learned_note from (is_some (node m.diagram old.world.scene c.bay).collecting) (is_some
    (node m.diagram old.world.scene c.bay).granted) (is_some new.collecting) (bay_of m.diagram i) c.bay
    (own_note m.diagram old i) (note_at old.beside c.message i) (note_at old.known c.bay i)
    else note_at old.known b i

-- The notes after a step of a node: beside the messages of before they are as they were, beside a new Answer are
-- those of its bay, and the bay of the node has learned.
pub record NotesTurn (m : Meaning) (old : TripScene) (c : Concern) (new : TripScene) : Type 0 where
  pub sensed : new.sensed ≡ sensed_after c.event old.sensed (old.events + 1)
  pub tripped : new.tripped ≡ old.tripped
  pub events : new.events ≡ old.events + 1
  pub each_beside : length new.beside ≡ length new.world.scene.sent
  pub each_known : length new.known ≡ length old.known
  pub each_note : (b : ℕ) → length (slice_index_or new.known b []) ≡ length (slice_index_or old.known b [])
  pub before : (j i : ℕ) → j < length old.world.scene.sent → i < length m.diagram.switches
      → note_at new.beside j i ≡ note_at old.beside j i
  pub beside : (j i : ℕ) (f : Frame) (s : List ℕ) → length old.world.scene.sent ≤ j
      → slice_get new.world.scene.sent j ≡ Some f → f.body ≡ Answer s → i < length m.diagram.switches
      → bay_of m.diagram i ≡ c.bay → note_at new.beside j i ≡ own_note m.diagram old i
  pub from : Option ℕ
  pub counts : CountsOf m (node m.diagram old.world.scene c.bay) c.event from
  pub known : (b i : ℕ) → i < length m.diagram.switches → note_at new.known b i ≡ known_then m old c from
      (node m.diagram new.world.scene c.bay) b i

-- What becomes of the notes: nothing at all, where a premise is broken; nothing, where the event concerns no node;
-- else they are those after a step of the node.
pub data NotesAfter (m : Meaning) (old : TripScene) (event : WorldEvent) (new : TripScene)
    (outcome : WorldOutcome) : Type 0 where
  refused : (which : Which) → outcome ≡ Premise which → new ≡ old → NotesAfter m old event new outcome
  passes : ((which : Which) → outcome ≢ Premise which) → concern m.diagram old.world.scene event ≡ None
      → new ≡ later old new.world → NotesAfter m old event new outcome
  turns : (c : Concern) → concern m.diagram old.world.scene event ≡ Some c → ((which : Which)
      → outcome ≢ Premise which) → NotesTurn m old c new → NotesAfter m old event new outcome

-- An event of a world without trips: it happens to the world, and the notes are taken.
pub record StepHappens (m : Meaning) (old : TripScene) (event : WorldEvent) (new : TripScene)
    (outcome : WorldOutcome) : Type 0 where
  pub happens : Happens m old.world.scene event new.world.scene outcome
  pub words : KeepsWords m.diagram old.world new.world
  pub notes : NotesAfter m old event new outcome

-- Breaker i opens, and its drive stops. No node takes a step, and no word, note or message is other than before.
pub record IsTripped (old : TripScene) (i : ℕ) (new : TripScene) (outcome : WorldOutcome) : Type 0 where
  pub scene : new ≡ record {
    world = record { scene = moves old.world.scene i Open false; beside = old.world.beside };
    sensed = old.sensed;
    tripped = slice_set old.tripped i (old.events + 1);
    beside = old.beside;
    known = old.known;
    events = old.events + 1;
  }
  pub says : outcome ≡ Drive

-- What may happen at an event.
abbrev pub TripHappens : Meaning → TripScene → TripEvent → TripScene → WorldOutcome → Type 0
TripHappens m old (Step event) new outcome = StepHappens m old event new outcome
TripHappens m old (Trip i) new outcome = IsTripped old i.0 new outcome

-- The switch or bay of an event is one of the station, and what trips is a breaker.
abbrev pub TripInRange : Diagram → TripEvent → Type 0
TripInRange d (Step event) = InRange d event
TripInRange d (Trip i) = IsBreaker d i.0

-- The event breaks this premise. A trip breaks none.
abbrev pub BreaksTripPremise : Diagram → TripScene → TripEvent → Which → Type 0
BreaksTripPremise d s (Step event) which = BreaksPremise d s.world.scene event which
BreaksTripPremise d s (Trip i) which = ⊥
