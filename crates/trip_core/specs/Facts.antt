-- What a world with trips keeps, and what follows of its granted operations.
use Rattle.std.specs.Prelude.{◌≡◌, ◌≢◌, ◌⊎◌, ◌<◌, ◌≤◌, ℕ, Bool, true, List, [], length, slice_get, slice_index_or}
use Rattle.std.specs.Prelude.{Option, Some, None}
use Rattle.ilk_base.specs.declared.words.Dbpos.TheVariants.{On}
use Rattle.station_graph.specs.Diagram.{Diagram, part_count}
use Rattle.station_graph.specs.Alike.{IsVector}
use Rattle.station_graph.specs.CentralRules.{GapBreaks, LoadBreaks}
use Rattle.central_rules.specs.Meaning.{Meaning, bay_of}
use Rattle.bay_frames.specs.declared.frame.Frame.{Frame}
use Rattle.bay_frames.specs.declared.frame.Body.TheVariants.{Answer}
use Rattle.bay_protocol.specs.declared.values.Grant.{Grant}
use Rattle.bay_protocol.specs.Fits.{IsOwn}
use Rattle.bay_protocol.specs.State.{under_way}
use Rattle.reservation_core.specs.Scene.{node, true_at, IsTrueWord, ReadsAs, Resolves}
use Rattle.reservation_core.specs.RoundFacts.{NotGranted, IsLockedFor, AnswerSent}
use Rattle.reservation_core.specs.Held.{TruthFacts, HeardAllow}
use Rattle.reservation_core.specs.Facts.{ObeysFirstTwo, BayResolvesBut}
use Rattle.reservation_core.specs.World.{WorldRounds}
use Rattle.trip_core.specs.declared.values.Note.{Note}
use Rattle.trip_core.specs.Trips.{TripScene, IsBreaker, IsOwnOrPartner, IsStale, IsGoodNote, word_in, note_at, own_note}
use Rattle.trip_core.specs.Trips.{held_of, tripped_at}

-- There is a note wherever there is to be one, and nothing has tripped at an event that is to come.
pub record IsClocked (d : Diagram) (s : TripScene) : Type 0 where
  pub each_sensed : length s.sensed ≡ length d.switches
  pub each_tripped : length s.tripped ≡ length d.switches
  pub each_beside : length s.beside ≡ length s.world.scene.sent
  pub each_known : length s.known ≡ part_count d
  pub each_note : (b : ℕ) → b < part_count d → length (slice_index_or s.known b []) ≡ length d.switches
  pub tripped : (i : ℕ) → i < length d.switches → tripped_at s.tripped i ≤ s.events

-- All facts of a world with trips: the round half is that of a world without trips, and the truth half has the
-- notes that are good with trips.
pub record TripFacts (m : Meaning) (s : TripScene) : Type 0 where
  pub clocked : IsClocked m.diagram s
  pub rounds : WorldRounds m s.world
  pub truth : TruthFacts m Note word_in (IsGoodNote m.diagram s.world.scene.truth s.tripped s.events) s.world.scene
      (held_of m.diagram s)

-- No breaker that the granted operation of bay c used has tripped since its word was read. It used each breaker of a
-- bay that matters to c, other than its own switch, whose word in what it knew is on: one that was off is open, and a
-- trip leaves it so.
abbrev pub IsFresh : Diagram → TripScene → ℕ → Grant → Type 0
IsFresh d s c g = (i : ℕ) → IsBreaker d i → IsOwnOrPartner d (bay_of d i) c → i ≢ g.op.switch.0
    → (note_at s.known c i).word ≡ On → tripped_at s.tripped i ≤ (note_at s.known c i).at

-- In no vector that resolves the truth do the first two rules apply to a granted operation, whatever has tripped.
abbrev pub ObeysGap : Meaning → TripScene → Type 0
ObeysGap m s = ObeysFirstTwo m s.world.scene

-- The third does not apply as long as no breaker that it used has tripped.
abbrev pub ObeysLoad : Meaning → TripScene → Type 0
ObeysLoad m s = (c : ℕ) (g : Grant) (v : List Bool) → (node m.diagram s.world.scene c).granted ≡ Some g
    → IsVector m.diagram v → Resolves s.world.scene.truth v → IsFresh m.diagram s c g → ¬ LoadBreaks m.diagram v g.op

-- ---- the facts in terms of the truth: they follow, and alone they would not be kept

-- Switch i stands as the Answer at place k lets it: closed, where it is a breaker whose word was on, and else as
-- it truly does.
pub record StandsForAnswer (d : Diagram) (s : TripScene) (k i : ℕ) (closed : Bool) : Type 0 where
  pub on : IsBreaker d i → (note_at s.beside k i).word ≡ On → closed ≡ true
  pub other : (¬ IsBreaker d i) ⊎ ((note_at s.beside k i).word ≢ On) → ReadsAs (true_at s.world.scene.truth i) closed

-- The sender of the Answer is locked for its round, and its summary allows each vector in which the switches of
-- the sender stand as the Answer lets them.
pub record AnsweredTrip (m : Meaning) (s : TripScene) (k : ℕ) (f : Frame) (t : List ℕ) : Type 0 where
  pub locked : IsLockedFor m.diagram s.world.scene f
  pub allowed : (v : List Bool) → IsVector m.diagram v → ((i : ℕ) (closed : Bool) → IsOwn m.diagram f.from.0 i
      → slice_get v i ≡ Some closed → StandsForAnswer m.diagram s k i closed) → m.Allows f.from.0 t v

-- Fact 4 (answers) with trips, of each Answer whose round is under way.
abbrev pub AnswersTrip : Meaning → TripScene → Type 0
AnswersTrip m s = (k : ℕ) (f : Frame) (t : List ℕ) → slice_get s.world.scene.sent k ≡ Some f → f.body ≡ Answer t
    → under_way (node m.diagram s.world.scene f.to.0) ≡ Some f.round → AnsweredTrip m s k f t

-- Fact 6 (words) with trips: a word of a node that is off or on is the true position, unless an operation of its
-- switch is granted, or it is on, of a breaker that has tripped since and is open.
abbrev pub WordsTrip : Meaning → TripScene → Type 0
WordsTrip m s = (i : ℕ) → i < length m.diagram.switches → NotGranted (node m.diagram s.world.scene
    (bay_of m.diagram i)) i → IsTrueWord (own_note m.diagram s i).word
    (true_at s.world.scene.truth i) ⊎ IsStale m.diagram s.world.scene.truth s.tripped i (own_note m.diagram s i)

-- Answers were sent to c for its granted operation, at most one of each bay, such that in no vector in which the
-- other switches of c stand as they truly do, and each of those bays as its Answer allows, the first two rules
-- apply, nor the third, as long as no breaker that was used has tripped.
pub record BackedTrip (m : Meaning) (s : TripScene) (c : ℕ) (g : Grant) : Type 0 where
  pub heard : List (Option (List ℕ))
  pub answers : (b : ℕ) (t : List ℕ) → slice_get heard b ≡ Some (Some t) → AnswerSent s.world.scene.sent b c g.round t
  pub gap : (v : List Bool) → IsVector m.diagram v → BayResolvesBut m.diagram s.world.scene.truth c g.op.switch.0 v
      → HeardAllow m c heard v → GapBreaks m.diagram v g.op None
  pub load : IsFresh m.diagram s c g → (v : List Bool) → IsVector m.diagram v
      → BayResolvesBut m.diagram s.world.scene.truth c g.op.switch.0 v → HeardAllow m c heard v
      → ¬ LoadBreaks m.diagram v g.op

-- Fact 7 (grants) with trips, of each granted operation.
abbrev pub GrantsTrip : Meaning → TripScene → Type 0
GrantsTrip m s = (c : ℕ) (g : Grant) → (node m.diagram s.world.scene c).granted ≡ Some g → BackedTrip m s c g
