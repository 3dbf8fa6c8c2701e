-- Lines as a text: the fields of a line are parted by tabs (byte 9), and each line ends with LF (byte 10).
use Rattle.std.specs.Prelude.{ℕ, List, [], ◌∷◌, ◌++◌}
use Rattle.std.specs.List.{flat_map}

-- A line, as its fields.
abbrev pub Row : Type 0
Row = List (List ℕ)

-- The text of a line.
abbrev pub row_text : Row → List ℕ
row_text [] = 10 ∷ []
row_text (field ∷ []) = field ++ 10 ∷ []
row_text (field ∷ next ∷ rest) = field ++ 9 ∷ row_text (next ∷ rest)

-- The text of lines.
abbrev pub text_of : List Row → List ℕ
text_of rows = flat_map row_text rows
