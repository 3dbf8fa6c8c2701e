-- The lines of a text in bytes, and which of them are not empty. What a line is, is said by `lines` of the
-- standard library: a line ends with LF or CR LF, the last may end with the text, and a CR is part of the
-- end only before LF.
use Rattle.std.specs.Prelude.{◌≡◌, ◌≢◌, ℕ, ◌+◌, ◌-◌, ◌++◌, Bool, true, false, List, [], ◌∷◌, filter, length, slice_get}
use Rattle.std.specs.Prelude.{Some}
use Rattle.std.specs.List.{enumerate_from}
use Rattle.std.specs.Str.Lines.{lines}

-- A line is not empty.
abbrev pub is_filled : List ℕ → Bool
is_filled [] = false
is_filled (byte ∷ bytes) = true

-- Those of these lines that are not empty, each with its number, where the first has this number.
abbrev pub filled_from : ℕ → List (List ℕ) → List (ℕ × List ℕ)
filled_from number all = filter (λ p. is_filled p.1) (enumerate_from number all)

-- The lines of a text that are not empty, each with its number, from 1.
abbrev pub filled_lines : List ℕ → List (ℕ × List ℕ)
filled_lines text = filled_from 1 (lines text)

-- Where a reader of lines stands: how many lines it has passed, and which are left.
pub record Unread : Type 0 where
  pub passed : ℕ
  pub left : List (List ℕ)

-- The lines that are left and not empty, with their numbers.
abbrev pub filled_left : Unread → List (ℕ × List ℕ)
filled_left u = filled_from (u.passed + 1) u.left

-- How many lines there are, passed and left.
abbrev pub line_count : Unread → ℕ
line_count u = u.passed + length u.left

-- There is a last byte, and it is not CR, which is part of the end of a line only before LF.
abbrev pub EndsPlainly : List ℕ → Type 0
EndsPlainly bytes = (last : ℕ) × (slice_get bytes (length bytes - 1) ≡ Some last) × (last ≢ 13)

-- The line is this head and what follows it; something follows, and it does not end with CR.
pub record Continues (head rest line : List ℕ) : Type 0 where
  pub is : line ≡ head ++ rest
  pub ends : EndsPlainly rest
