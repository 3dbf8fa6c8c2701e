-- What each part can have by the words of all switches.
use Rattle.std.specs.Prelude.{◌≡◌, ℕ, List, length, slice_get, Option, Some}
use Rattle.ilk_base.specs.declared.words.Dbpos.{Dbpos}
use Rattle.double_points.specs.Words.{AreWords}
use Rattle.station_graph.specs.Diagram.{part_count}
use Rattle.part_alphabets.specs.Alphabets.{InSet, IsPossible}
use Rattle.release_compile.specs.declared.all_words.AllWords.{AllWords}
use Rattle.judge_pool.specs.Lettered.{Lettered}

-- The sets are those of the first n parts, each of exactly the indices that the part can have by the words.
pub record ArePossible (a : Lettered) (words : List Dbpos) (sets : List (List (Option ℕ))) (n : ℕ) : Type 0 where
  pub len : length sets ≡ n
  pub each : (part : ℕ) (set : List (Option ℕ)) → slice_get sets part ≡ Some set
      → IsPossible a.diagram a.alphabets part words set

-- There is a word for each switch, and for each part the set of what it can have by them.
pub record AreAllWords (a : Lettered) (w : AllWords) : Type 0 where
  pub words : AreWords a.diagram w.words.now
  pub possible : ArePossible a w.words.now w.possible.items (part_count a.diagram)

-- The set of the part holds the index.
abbrev pub SetHolds : List (List (Option ℕ)) → ℕ → ℕ → Type 0
SetHolds sets part index = (set : List (Option ℕ)) × (slice_get sets part ≡ Some set) × InSet set index
