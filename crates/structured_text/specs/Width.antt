-- How wide a text is.
use Rattle.std.specs.Prelude.{◌≡◌, ◌++◌, ◌≤◌, ◌&&◌, ℕ, Bool, List, Contains, nat_lt, count_by}
use Rattle.structured_text.specs.Meaning.{b_not}

-- Whether a byte continues a character of UTF-8.
abbrev pub continues : ℕ → Bool
continues b = nat_lt 127 b && nat_lt b 192

-- How many characters a text has: a byte that continues none begins one.
abbrev pub characters : List ℕ → ℕ
characters text = count_by (λ b. b_not (continues b)) text

-- No line has more than 200 characters: what stands in a row without the end of a line has no more.
abbrev pub AreLinesShort : List ℕ → Type 0
AreLinesShort text =
    (before row behind : List ℕ) → text ≡ before ++ (row ++ behind) → ¬ Contains row 10 → characters row ≤ 200
