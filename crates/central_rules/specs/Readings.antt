-- Readings: the vectors that agree with what is known, and what a judge decides over them.
use Rattle.std.specs.Prelude.{◌≡◌, ◌≤◌, ℕ, Bool, List, length, slice_get, Some, None}
use Rattle.ilk_base.specs.declared.words.Dbpos.{Dbpos}
use Rattle.ilk_base.specs.declared.words.Op.{Op}
use Rattle.double_points.specs.Words.{Agrees}
use Rattle.station_graph.specs.Diagram.{Diagram}
use Rattle.station_graph.specs.CentralRules.{Breaks}
use Rattle.central_rules.specs.declared.verdict.Verdict.{Verdict}
use Rattle.central_rules.specs.declared.verdict.Verdict.TheVariants.{Release, Denied}

-- The vector has one position for each word, and from this switch on each agrees with its word.
pub record IsReadingFrom (from : ℕ) (words : List Dbpos) (v : List Bool) : Type 0 where
  pub whole : length v ≡ length words
  pub agree : (i : ℕ) (word : Dbpos) (closed : Bool) → from ≤ i → slice_get words i ≡ Some word →
      slice_get v i ≡ Some closed → Agrees word closed

-- A reading of the words of all switches: a vector in which every switch agrees with its word.
abbrev pub IsReading : List Dbpos → List Bool → Type 0
IsReading words v = IsReadingFrom 0 words v

-- Released exactly where the rules give none in every vector of these; else denied with one of them and
-- the rule that the rules give there.
abbrev pub Decides : Diagram → (List Bool → Type 0) → Op → Verdict → Type 0
Decides d These op Release = (v : List Bool) → These v → Breaks d v op None
Decides d These op (Denied rule v) = These v × Breaks d v op (Some rule)
