-- Whole lines at the front of the bytes that are held of an input.
use Rattle.std.specs.Prelude.{◌≡◌, ◌++◌, ◌∷◌, ℕ, List, []}
use Rattle.std.specs.Str.Lines.{strip_carriage_return}
use Rattle.node_session.specs.Reading.{HasNoFeed, BeginsLine}

-- What is held begins with a whole line, and little follows it.
abbrev pub HoldsLine : List ℕ → Type 0
HoldsLine held = (line : List ℕ) × (past : List ℕ) × BeginsLine held line past

-- What is held begins with these lines, each with its end, and these bytes follow them.
abbrev pub HoldsLines : List ℕ → List (List ℕ) → List ℕ → Type 0
HoldsLines held [] past = held ≡ past
HoldsLines held (line ∷ lines) past = (front : List ℕ) × (rest : List ℕ) × (held ≡ front ++ 10 ∷ rest)
    × HasNoFeed front × (line ≡ strip_carriage_return front) × HoldsLines rest lines past
