-- A number of a line in two pieces: its label and its digits, both empty where there is none.
use Rattle.std.specs.Prelude.{ℕ, List, [], Option, Some, None}
use Rattle.std.specs.Fmt.{decimal}

-- The label of a number, where there is one.
abbrev pub label_where : List ℕ → Option ℕ → List ℕ
label_where label None = []
label_where label (Some n) = label

-- The digits of a number, where there is one.
abbrev pub digits_of : Option ℕ → List ℕ
digits_of None = []
digits_of (Some n) = decimal n
