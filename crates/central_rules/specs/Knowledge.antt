-- What a bay knows of the station by words, and what holds of an operation by it.
use Rattle.std.specs.Prelude.{◌≡◌, ◌≢◌, ◌⊎◌, ℕ, Bool, List, slice_get, Option, Some, None}
use Rattle.ilk_base.specs.declared.words.Dbpos.{Dbpos}
use Rattle.ilk_base.specs.declared.words.Dbpos.TheVariants.{Off, On}
use Rattle.ilk_base.specs.declared.words.Op.{Op}
use Rattle.double_points.specs.Words.{BayAgrees}
use Rattle.station_graph.specs.Diagram.{Diagram}
use Rattle.station_graph.specs.Connection.{a_switch}
use Rattle.station_graph.specs.Sharing.{OfPart}
use Rattle.station_graph.specs.CentralRules.{Breaks}
use Rattle.station_graph.specs.Alike.{Alike, Irrelevant, IsVector}

-- The bay stands in v alike to a position in which it agrees with these words.
pub record StandsAlike (d : Diagram) (b : ℕ) (words : List Dbpos) (v : List Bool) : Type 0 where
  pub position : List Bool
  pub whole : IsVector d position
  pub agrees : BayAgrees d b words position
  pub alike : Alike d b v position

-- What a bay knows: its own words, and for each part the words that it has heard of it, if any.
pub record Known : Type 0 where
  pub bay : ℕ
  pub own : List Dbpos
  pub heard : List (Option (List Dbpos))

-- A reading of what a bay knows: its own switches agree with its own words, and each other bay of which it
-- has heard is irrelevant to it, or stands alike to a position that agrees with the words heard. The bays
-- of which it has not heard stand in any position.
pub record IsReadingOf (d : Diagram) (k : Known) (v : List Bool) : Type 0 where
  pub whole : IsVector d v
  pub own : BayAgrees d k.bay k.own v
  pub heard : (b : ℕ) (words : List Dbpos) → b ≢ k.bay → slice_get k.heard b ≡ Some (Some words) → Irrelevant d b k.bay
      ⊎ StandsAlike d b words v

-- The operation breaks no rule in any reading of what is known.
abbrev pub Holds : Diagram → Op → Known → Type 0
Holds d op k = (v : List Bool) → IsReadingOf d k v → Breaks d v op None

-- Each switch of the bay has a word that is off or on.
abbrev pub AllCertain : Diagram → ℕ → List Dbpos → Type 0
AllCertain d b words = (i : ℕ) → OfPart d b (a_switch i) → (slice_get words i ≡ Some On)
    ⊎ (slice_get words i ≡ Some Off)

-- Full knowledge: the own words are off or on, and words were heard of each other bay, all off or on.
pub record IsFull (d : Diagram) (k : Known) : Type 0 where
  pub own : AllCertain d k.bay k.own
  pub others : (b i : ℕ) → b ≢ k.bay → OfPart d b (a_switch i) → (words : List Dbpos)
      × (slice_get k.heard b ≡ Some (Some words)) × AllCertain d b words
