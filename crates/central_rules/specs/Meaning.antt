-- What the summaries of a judge mean, and what holds of each judge.
use Rattle.std.specs.Prelude.{◌≡◌, ◌≢◌, ◌⊎◌, ◌↔◌, ◌<◌, ℕ, Bool, List, [], slice_get, Option, Some, option_map}
use Rattle.std.specs.Prelude.{unwrap_or}
use Rattle.ilk_base.specs.declared.words.Dbpos.{Dbpos}
use Rattle.station_graph.specs.declared.items.Switch.{Switch}
use Rattle.station_graph.specs.Diagram.{Diagram, part_count, switches_in}
use Rattle.station_graph.specs.Sharing.{OfPart}
use Rattle.station_graph.specs.Alike.{Irrelevant, IsVector, SamePositions}
use Rattle.central_rules.specs.Knowledge.{StandsAlike, Known}
use Rattle.double_points.specs.Words.{BayAgrees}

-- What the summaries of a judge mean. A summary is what one bay tells another of its positions, as a list
-- of bytes.
pub record Meaning : Type 1 where
  -- the station of the judge
  pub diagram : Diagram
  -- the first bay tells the second nothing of itself
  pub Silent : ℕ → ℕ → Type 0
  -- a summary from the first bay to the second has the form of the judge
  pub Fits : ℕ → ℕ → List ℕ → Type 0
  -- a summary of the bay allows the positions that the vector gives the bay
  pub Allows : ℕ → List ℕ → List Bool → Type 0

-- What holds of each judge. Where it speaks of two bays, they differ: a bay tells itself nothing.
pub record Laws (m : Meaning) : Type 0 where
  -- what a summary allows depends on the positions of its own bay alone
  pub local : (b : ℕ) (s : List ℕ) (v w : List Bool) → IsVector m.diagram v → IsVector m.diagram w →
      SamePositions (OfPart m.diagram b) v w → m.Allows b s v → m.Allows b s w
  -- a bay that tells another nothing is irrelevant to it
  pub irrelevant : (b to : ℕ) → b ≢ to → m.Silent b to → Irrelevant m.diagram b to
  -- from such a bay exactly the empty summary fits
  pub empty_fits : (b to : ℕ) (s : List ℕ) → b ≢ to → m.Silent b to → m.Fits b to s ↔ (s ≡ [])
  -- and it allows each vector
  pub empty_allows : (b to : ℕ) (v : List Bool) → b ≢ to → m.Silent b to → IsVector m.diagram v → m.Allows b [] v

-- A summary allows no more than what the words say: the bay stands in each vector that it allows alike to a
-- position in which it agrees with the words.
abbrev pub AllowsAlike : Meaning → ℕ → List Dbpos → List ℕ → Type 0
AllowsAlike m b words s = (v : List Bool) → IsVector m.diagram v → m.Allows b s v → StandsAlike m.diagram b words v

-- A summary that the bay may make of its words for another bay.
pub record Summarises (m : Meaning) (b to : ℕ) (words : List Dbpos) (s : List ℕ) : Type 0 where
  pub fits : m.Fits b to s
  -- whether the bay tells or not, each vector in which it agrees with its words is allowed
  pub each : (v : List Bool) → IsVector m.diagram v → BayAgrees m.diagram b words v → m.Allows b s v
  -- it is empty where the bay tells nothing, and else it allows no more than what the words say
  pub no_more : (m.Silent b to × (s ≡ [])) ⊎ AllowsAlike m b words s

-- Each summary that was heard of another bay fits.
abbrev pub HeardFit : Meaning → ℕ → List (Option (List ℕ)) → Type 0
HeardFit m bay heard = (b : ℕ) (s : List ℕ) → b ≢ bay → slice_get heard b ≡ Some (Some s) → m.Fits b bay s

-- A vector that the bay cannot exclude by its own words and the summaries that it has heard: its own
-- switches agree with its own words, and each summary heard of another bay allows the vector.
pub record CannotExclude (m : Meaning) (bay : ℕ) (own : List Dbpos) (heard : List (Option (List ℕ)))
    (v : List Bool) : Type 0 where
  pub whole : IsVector m.diagram v
  pub own_agree : BayAgrees m.diagram bay own v
  pub heard_allow : (b : ℕ) (s : List ℕ) → b ≢ bay → slice_get heard b ≡ Some (Some s) → m.Allows b s v

-- A summary was heard of bay b, and it is one of these words.
pub record IsMade (m : Meaning) (b to : ℕ) (words : List Dbpos) (heard : List (Option (List ℕ))) : Type 0 where
  pub summary : List ℕ
  pub stands : slice_get heard b ≡ Some (Some summary)
  pub made : Summarises m b to words summary

-- The summaries heard are those of the words of what is known, and of no other bay.
pub record AreMade (m : Meaning) (k : Known) (heard : List (Option (List ℕ))) : Type 0 where
  pub each : (b : ℕ) (words : List Dbpos) → b ≢ k.bay → slice_get k.heard b ≡ Some (Some words) →
      IsMade m b k.bay words heard
  pub no_other : (b : ℕ) (s : List ℕ) → b ≢ k.bay → slice_get heard b ≡ Some (Some s) → (words : List Dbpos)
      × (slice_get k.heard b ≡ Some (Some words))

-- The bay of a switch of the station.
abbrev pub bay_of : Diagram → ℕ → ℕ
bay_of d i = unwrap_or (option_map (λ (x : Switch). x.bay.0) (slice_get d.switches i)) 0

-- A part with switches.
abbrev pub IsBay : Diagram → ℕ → Type 0
IsBay d b = (b < part_count d) × (0 < switches_in d b)
