-- Which words name a command: its name, and as many words after it as its row says.
use Rattle.std.specs.Prelude.{◌==◌, ◌&&◌, ◌||◌, ℕ, Bool, false, not, List, [], ◌∷◌, map, length, find, Option, Some, None}
use Rattle.std.specs.Prelude.{nat_lt, if◌then◌else◌}
use Rattle.std.specs.Borrow.{Bor}
use Rattle.std.specs.List.{list_all}
use Rattle.std.specs.Option.{option_map_or}
use Rattle.std.specs.Str.{bytes_eq}
use Rattle.command_words.specs.declared.row.TheConstants.{ROWS}
use Rattle.command_words.specs.declared.row.Row.{Row}

-- Rows as texts, from texts in memory.
abbrev pub rows_from : List (Bor (List ℕ) × ℕ × ℕ) → List (List ℕ × ℕ × ℕ)
rows_from rows = map (λ r. (r.0.now, r.1, r.2)) rows

-- The commands, each with how many words follow its name: at least, and at most.
abbrev pub rows : List (List ℕ × ℕ × ℕ)
rows = map (λ r. (r.0.now, r.1, r.2)) ROWS

-- One to four words, none of which may be left out, or the second of two, or the last two of four.
abbrev pub are_few : ℕ → ℕ → Bool
are_few least most =
    nat_lt 0 least && nat_lt most 5 && (least == most || (least == 1 && most == 2) || (least == 2 && most == 4))

-- So many follow the name.
abbrev pub has_few_words : Bor (List ℕ) × ℕ × ℕ → Bool
has_few_words r = are_few r.1 r.2

-- So many words are no fewer and no more than these.
abbrev pub is_between : ℕ → ℕ → ℕ → Bool
is_between least most count = not (nat_lt count least) && not (nat_lt most count)

-- A word that is not empty and does not begin with `-`.
abbrev pub is_plain : List ℕ → Bool
is_plain [] = false
is_plain (c ∷ cs) = not (c == 45)

-- The row of this name.
abbrev pub row_of : List ℕ → Option (List ℕ × ℕ × ℕ)
row_of name = find (λ r. bytes_eq r.0 name) rows

-- The words are a command's name, and as many words as its row says.
abbrev pub is_row : List (List ℕ) → Bool
is_row [] = false
is_row (name ∷ rest) = option_map_or (λ r. is_between r.1 r.2 (length rest)) (row_of name) false

-- The words, where they are of the written form: they are those of a row, and none is empty or begins
-- with `-`.
abbrev pub written : List (List ℕ) → Option (List (List ℕ))
written words = if list_all is_plain words && is_row words then Some words else None

-- The words of a row that was read, its name first.
abbrev pub row_words : Row → List (List ℕ)
row_words r = r.name.now ∷ map (λ w. w.now) r.words.items
