-- The state of a node over every reading of the words: whether it is live, and whether it is earthed.
use Rattle.std.specs.Prelude.{◌≡◌, ℕ, Bool, true, false, List, length, map, slice_get, Some}
use Rattle.ilk_base.specs.declared.words.Dbpos.{Dbpos}
use Rattle.ilk_base.specs.declared.words.Dbpos.TheVariants.{Intermediate, Off, On, Bad, Lost}
use Rattle.ilk_base.specs.declared.words.Kind.TheVariants.{Earthing}
use Rattle.station_graph.specs.Diagram.{Diagram, node_count}
use Rattle.station_graph.specs.Connection.{Joined}
use Rattle.station_graph.specs.Supply.{ClosedAt, Live}
use Rattle.central_rules.specs.Readings.{IsReading}
use Rattle.station_state.specs.declared.certainty.Certainty.{Certainty}
use Rattle.station_state.specs.declared.certainty.Certainty.TheVariants.{Always, Never, Unknown}
use Rattle.station_state.specs.declared.certainty.NodeState.{NodeState}

-- The node is earthed: it is joined to the node of a closed earthing switch. (An open breaker parts it
-- from earth; what is coupled to earth is earthable.)
abbrev pub Earthed : Diagram → List Bool → ℕ → Type 0
Earthed d v n = (m : ℕ) × Joined d v n m × ClosedAt d v Earthing m

-- In which readings of the words something holds: in every one, in none, or in one and not in another.
abbrev pub HoldsIn : List Dbpos → (List Bool → Type 0) → Certainty → Type 0
HoldsIn words P Always = (v : List Bool) → IsReading words v → P v
HoldsIn words P Never = (v : List Bool) → IsReading words v → ¬ P v
HoldsIn words P Unknown = ((v : List Bool) × IsReading words v × P v) × ((v : List Bool) × IsReading words v × (¬ P v))

-- There is a state for each node, and each is right over every reading of the words.
pub record AreStates (d : Diagram) (words : List Dbpos) (states : List NodeState) : Type 0 where
  pub count : length states ≡ node_count d
  pub live : (n : ℕ) (s : NodeState) → slice_get states n ≡ Some s → HoldsIn words (λ v. Live d v n) s.live
  pub earthed : (n : ℕ) (s : NodeState) → slice_get states n ≡ Some s → HoldsIn words (λ v. Earthed d v n) s.earthed

-- What holds over the readings of something that only grows as switches close, by whether it holds in the
-- least reading and in the greatest.
abbrev pub certainty_of : Bool → Bool → Certainty
certainty_of true greatest = Always
certainty_of false true = Unknown
certainty_of false false = Never

-- Whether a switch with this word is closed, where one that may be both is so.
abbrev pub closed_where : Bool → Dbpos → Bool
closed_where uncertain On = true
closed_where uncertain Off = false
closed_where uncertain Intermediate = uncertain
closed_where uncertain Bad = uncertain
closed_where uncertain Lost = uncertain

-- The reading in which each switch that may be both is closed (the greatest), or is open (the least).
abbrev pub extreme : Bool → List Dbpos → List Bool
extreme uncertain words = map (closed_where uncertain) words

-- What of two facts, the first of which is the same fact under a lesser vector, a certainty says: that the
-- first holds, that the second does not, or that the second alone does.
abbrev pub Between : Type 0 → Type 0 → Certainty → Type 0
Between P Q Always = P
Between P Q Never = ¬ Q
Between P Q Unknown = (¬ P) × Q

-- The state of the node as these two vectors show it.
pub record IsBetween (d : Diagram) (least greatest : List Bool) (n : ℕ) (s : NodeState) : Type 0 where
  pub live : Between (Live d least n) (Live d greatest n) s.live
  pub earthed : Between (Earthed d least n) (Earthed d greatest n) s.earthed

-- The first k states are those that these two vectors show.
pub record AreBetween (k : ℕ) (d : Diagram) (least greatest : List Bool) (states : List NodeState) : Type 0 where
  pub count : length states ≡ k
  pub each : (n : ℕ) (s : NodeState) → slice_get states n ≡ Some s → IsBetween d least greatest n s
