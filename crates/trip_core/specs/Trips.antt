-- A world with trips: a world, and when its words were read and its breakers tripped.
use Rattle.std.specs.Prelude.{◌≡◌, ◌<◌, ◌≤◌, ◌⊎◌, ℕ, List, [], slice_get, slice_index_or, Some}
use Rattle.ilk_base.specs.declared.words.Dbpos.{Dbpos}
use Rattle.ilk_base.specs.declared.words.Dbpos.TheVariants.{On, Lost}
use Rattle.ilk_base.specs.declared.words.Kind.TheVariants.{Breaker}
use Rattle.station_graph.specs.declared.items.Switch.{Switch}
use Rattle.station_graph.specs.Diagram.{Diagram}
use Rattle.station_graph.specs.Alike.{Partner}
use Rattle.central_rules.specs.Meaning.{bay_of}
use Rattle.reservation_core.specs.Scene.{node, true_at, IsTrueWord}
use Rattle.reservation_core.specs.Held.{Held}
use Rattle.reservation_core.specs.World.{World}
use Rattle.reservation_core.specs.declared.values.Position.{Position}
use Rattle.reservation_core.specs.declared.values.Position.TheVariants.{Open}
use Rattle.trip_core.specs.declared.values.Note.{Note}

-- The world; of each switch, the number of the event at which the word in its node was last read, and of the one
-- at which it last tripped, or 0; beside each message the notes that its bay had when it sent it; of each bay the
-- notes that it knows in its round under way, from a grant on also its own; and how many events there were.
pub record TripScene : Type 0 where
  pub world : World
  pub sensed : List ℕ
  pub tripped : List ℕ
  pub beside : List (List Note)
  pub known : List (List Note)
  pub events : ℕ

-- Switch i is a breaker of the station.
pub record IsBreaker (d : Diagram) (i : ℕ) : Type 0 where
  pub switch : Switch
  pub listed : slice_get d.switches i ≡ Some switch
  pub kind : switch.kind ≡ Breaker

-- What stands in bay b matters to bay c: it is c itself, or a partner of c, whose positions can change an answer of c.
abbrev pub IsOwnOrPartner : Diagram → ℕ → ℕ → Type 0
IsOwnOrPartner d b c = (b ≡ c) ⊎ Partner d b c

-- The note where nothing is known.
abbrev pub lost : Note
lost = record { word = Lost; at = 0 }

-- The word of a note.
abbrev pub word_in : Note → Dbpos
word_in n = n.word

-- The note on switch i in the list at a place.
abbrev pub note_at : List (List Note) → ℕ → ℕ → Note
note_at lists k i = slice_index_or (slice_index_or lists k []) i lost

-- The note on switch i in its bay's node.
abbrev pub own_note : Diagram → TripScene → ℕ → Note
own_note d s i = record {
  word = slice_index_or (node d s.world.scene (bay_of d i)).words i Lost;
  at = slice_index_or s.sensed i 0;
}

-- All notes.
abbrev pub held_of : Diagram → TripScene → Held Note
held_of d s = record { own = own_note d s; beside = note_at s.beside; known = note_at s.known }

-- The number of the event at which switch i last tripped, or 0.
abbrev pub tripped_at : List ℕ → ℕ → ℕ
tripped_at tripped i = slice_index_or tripped i 0

-- The note says on, of a breaker that has tripped since its word was read, and is open.
pub record IsStale (d : Diagram) (truth : List Position) (tripped : List ℕ) (i : ℕ) (n : Note) : Type 0 where
  pub is_on : n.word ≡ On
  pub is_breaker : IsBreaker d i
  pub is_open : true_at truth i ≡ Open
  pub later : n.at < tripped_at tripped i

-- The word of the note is true, and was read by now.
pub record IsTrueNote (truth : List Position) (events i : ℕ) (n : Note) : Type 0 where
  pub is_true : IsTrueWord n.word (true_at truth i)
  pub by_now : n.word ≡ On → n.at ≤ events

-- A note is good where its word is true, or it is stale.
abbrev pub IsGoodNote : Diagram → List Position → List ℕ → ℕ → ℕ → Note → Type 0
IsGoodNote d truth tripped events i n = IsTrueNote truth events i n ⊎ IsStale d truth tripped i n
