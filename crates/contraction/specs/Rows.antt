-- The rows of a contraction, as bytes.
use Rattle.std.specs.Prelude.{◌≡◌, ℕ, ◌/◌, ◌%◌, Bool, List, [], ◌∷◌, ◌++◌, true, false}
use Rattle.contraction.specs.Answers.{Answers, IsContraction}
use Rattle.contraction.specs.declared.row.Row.{Row}

-- Two bytes for each number, the higher one first.
abbrev pub words : List ℕ → List ℕ
words [] = []
words (x ∷ xs) = (x / 256) ∷ (x % 256) ∷ words xs

-- A truth value as a number.
abbrev pub flag : Bool → ℕ
flag true = 1
flag false = 0

-- One byte for each bit.
abbrev pub flags : List Bool → List ℕ
flags [] = []
flags (b ∷ bs) = flag b ∷ flags bs

-- The bytes of the labels and marks of a row.
abbrev pub row_bytes : Row → List ℕ
row_bytes r = words r.labels ++ flags r.first.items ++ flags r.second.items

-- The same with the labels of the bonds beside those of the row.
abbrev pub bonded_bytes : Row → List ℕ → List ℕ
bonded_bytes r bonded = words r.labels ++ words bonded ++ flags r.first.items ++ flags r.second.items

-- The bytes of the gap view, and of the load view.
abbrev pub gap_bytes : Answers → List ℕ
gap_bytes c = words c.coupled ++ flags c.energisable ++ flags c.earthable

-- The answers of the load view.
abbrev pub load_bytes : Answers → List ℕ
load_bytes c = words c.joined ++ words c.bonded ++ flags c.fed ++ flags c.loaded

-- The rows: the kept nodes, and one view or both.
abbrev pub gap_row : Answers → List ℕ
gap_row c = words c.kept ++ gap_bytes c

-- The kept nodes and the answers of the load view.
abbrev pub load_row : Answers → List ℕ
load_row c = words c.kept ++ load_bytes c

-- The kept nodes and all answers.
abbrev pub whole_row : Answers → List ℕ
whole_row c = words c.kept ++ gap_bytes c ++ load_bytes c

-- The bytes are the gap row of a contraction.
pub record IsGapRow (bytes : List ℕ) : Type 0 where
  pub value : Answers
  pub contraction : IsContraction value
  pub row : bytes ≡ gap_row value

-- The bytes are the load row of a contraction.
pub record IsLoadRow (bytes : List ℕ) : Type 0 where
  pub value : Answers
  pub contraction : IsContraction value
  pub row : bytes ≡ load_row value

-- The bytes are both rows of the value.
pub record AreRowsOf (c : Answers) (gap load : List ℕ) : Type 0 where
  pub contraction : IsContraction c
  pub gap_is : gap ≡ gap_row c
  pub load_is : load ≡ load_row c

-- The bytes are both rows of one contraction.
pub record AreRows (gap load : List ℕ) : Type 0 where
  pub value : Answers
  pub rows : AreRowsOf value gap load
