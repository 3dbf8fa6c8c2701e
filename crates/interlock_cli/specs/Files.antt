-- Which files a call reads, and what it leaves of the others.
use Rattle.std.specs.Prelude.{◌≡◌, ◌++◌, ℕ, List, take, Option, Contains}
use Rattle.std.specs.Io.KnownBytes.{Keeps}

-- The files at a moment: what they hold, where that is told, their counts of faults, and the names that were asked
-- for, in order.
pub record Files : Type 0 where
  pub held : List ℕ → Option (List ℕ)
  pub faults : List ℕ → ℕ
  pub asked : List (List ℕ)

-- The files by these parts.
abbrev pub files : (List ℕ → Option (List ℕ)) → (List ℕ → ℕ) → List (List ℕ) → Files
files held faults asked = record { held = held; faults = faults; asked = asked }

-- The count of every name but these is left, and what is held under each name.
pub record LeavesOthers (names : List (List ℕ)) (old new : Files) : Type 0 where
  pub counts : (n : List ℕ) → ¬ Contains names n → new.faults n ≡ old.faults n
  pub kept : (n : List ℕ) → Keeps (old.held n) (new.held n)

-- Each of these names was asked for once, in this order, and no other name.
pub record ReadsAll (names : List (List ℕ)) (old new : Files) : Type 0 where
  pub asked : new.asked ≡ old.asked ++ names
  pub others : LeavesOthers names old new

-- Some first ones of these names were, and no other name.
pub record Reads (names : List (List ℕ)) (old new : Files) : Type 0 where
  pub count : ℕ
  pub asked : new.asked ≡ old.asked ++ take count names
  pub others : LeavesOthers names old new
