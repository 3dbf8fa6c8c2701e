-- A table without quotes, as one reads it: a line for each record, and a comma between two fields.
use Rattle.std.specs.Prelude.{◌≡◌, ◌≢◌, ◌⊎◌, ◌++◌, ◌∷◌, ℕ, List, []}
use Rattle.std.specs.List.{All}

-- A byte that stands for itself in a field: no comma, no quote, no carriage return and no line feed.
pub record IsPlainByte (b : ℕ) : Type 0 where
  pub no_comma : b ≢ 44
  pub no_quote : b ≢ 34
  pub no_return : b ≢ 13
  pub no_feed : b ≢ 10

-- A field of such bytes.
abbrev pub IsPlain : List ℕ → Type 0
IsPlain field = All IsPlainByte field

-- What follows a field in its line: each further field behind a comma.
abbrev pub behind_commas : List (List ℕ) → List ℕ
behind_commas [] = []
behind_commas (field ∷ fields) = 44 ∷ (field ++ behind_commas fields)

-- The fields, with a comma between two.
abbrev pub joined : List (List ℕ) → List ℕ
joined [] = []
joined (field ∷ fields) = field ++ behind_commas fields

-- A record that a line can say without quotes: its fields are plain, and the line is not empty.
pub record IsPlainRecord (fields : List (List ℕ)) : Type 0 where
  pub plain : All IsPlain fields
  pub filled : joined fields ≢ []

-- The text begins with this line, which ends with LF or CR LF, and goes on so.
abbrev pub BeginsLine : List ℕ → List ℕ → List ℕ → Type 0
BeginsLine text line rest = (text ≡ line ++ 10 ∷ rest) ⊎ (text ≡ line ++ 13 ∷ 10 ∷ rest)

-- The text is these records, one a line; the last line may end with the text.
abbrev pub AreLinesOf : List (List (List ℕ)) → List ℕ → Type 0
AreLinesOf [] text = text ≡ []
AreLinesOf (fields ∷ rows) text = IsPlainRecord fields
    × (((rest : List ℕ) × BeginsLine text (joined fields) rest × AreLinesOf rows rest)
    ⊎ ((text ≡ joined fields) × (rows ≡ [])))
