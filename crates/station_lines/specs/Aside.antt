-- Lines whose fields are shown, and lines beside those of the station.
use Rattle.std.specs.Prelude.{◌≡◌, ℕ, ◌⊎◌, true, List, [], ◌∷◌, codes}
use Rattle.std.specs.List.{list_all}
use Rattle.ssd_read.specs.Names.{is_shown}
use Rattle.station_lines.specs.Rows.{Row}

-- The field holds no control character, so neither tab nor LF.
abbrev pub IsShown : List ℕ → Type 0
IsShown field = list_all is_shown field ≡ true

-- The line has a field, and each is shown.
abbrev pub AreShown : Row → Type 0
AreShown [] = ⊥
AreShown (field ∷ []) = IsShown field
AreShown (field ∷ next ∷ rest) = IsShown field × AreShown (next ∷ rest)

-- So it is of each line.
abbrev pub AllShown : List Row → Type 0
AllShown [] = Unit {0}
AllShown (row ∷ rows) = AreShown row × AllShown rows

-- A line of a remark or of a count, which says nothing of the station.
pub record IsAside (row : Row) : Type 0 where
  pub word : List ℕ
  pub what : List ℕ
  pub name : List ℕ
  pub is : row ≡ word ∷ what ∷ name ∷ []
  pub words : (word ≡ codes "remark") ⊎ (word ≡ codes "count")
  pub what_shown : IsShown what
  pub name_shown : IsShown name

-- So is each of these lines.
abbrev pub AreAside : List Row → Type 0
AreAside [] = Unit {0}
AreAside (row ∷ rows) = IsAside row × AreAside rows
