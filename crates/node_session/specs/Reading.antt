-- Reading the lines of an input, a piece at a time.
use Rattle.std.specs.Prelude.{◌≡◌, ◌==◌, ◌≤◌, ◌<◌, ◌+◌, ◌++◌, ℕ, Bool, true, false, nat_lt, List, [], ◌∷◌, length}
use Rattle.std.specs.Prelude.{count_by, Option, Some, IfSome, ◌⊎◌}
use Rattle.std.specs.Str.Lines.{strip_carriage_return}
use Rattle.std.specs.Io.KnownBytes.{Consumes, Keeps, IsAtEnd}
use Rattle.node_session.specs.declared.request.TheConstants.{MOST_LINE}
use Rattle.node_session.specs.declared.reader.TheConstants.{CHUNK}
use Rattle.node_session.specs.declared.reader.Front.{Front}
use Rattle.node_session.specs.declared.reader.Front.TheVariants.{Line, TooLong, Last}
use Rattle.node_session.specs.declared.reader.InputTrouble.{InputTrouble}
use Rattle.node_session.specs.declared.reader.InputTrouble.TheVariants.{Memory, Failed}

-- The byte ends a line.
abbrev pub is_feed : ℕ → Bool
is_feed byte = byte == 10

-- A line that begins with these bytes is too long, wherever it ends.
abbrev pub is_long : List ℕ → Bool
is_long held = nat_lt MOST_LINE (length (strip_carriage_return held))

-- No line ends in these bytes.
abbrev pub HasNoFeed : List ℕ → Type 0
HasNoFeed held = count_by is_feed held ≡ 0

-- What is held grew by what was taken of the input.
pub record Grows (held held_new : List ℕ) (left left_new : Option (List ℕ)) : Type 0 where
  pub piece : List ℕ
  pub parts : held_new ≡ held ++ piece
  pub consumed : Consumes left left_new piece

-- The last call of the input began behind this piece, and until then no line ended in what was held.
abbrev pub AskedBehind : List ℕ → Option (List ℕ) → Option (List ℕ) → Type 0
AskedBehind held left asked =
    (piece : List ℕ) × IfSome asked (λ rest. Consumes left (Some rest) piece) × HasNoFeed (held ++ piece)

-- The input was not asked; or its last call was needed for what is at the front of what is held.
abbrev pub AsksNeeded : List ℕ → List ℕ → Option (List ℕ) → Option (List ℕ) → Option (List ℕ) → Type 0
AsksNeeded held held_new left asked asked_new =
    ((held_new ≡ held) × (asked_new ≡ asked)) ⊎ AskedBehind held left asked_new

-- A piece was taken, or the input is at its end.
pub record TakesPiece (held held_new : List ℕ) (left left_new : Option (List ℕ)) (more : Bool) : Type 0 where
  pub piece : List ℕ
  pub parts : held_new ≡ held ++ piece
  pub consumed : Consumes left left_new piece
  pub few : length piece ≤ CHUNK
  pub some : more ≡ true → 0 < length piece
  pub none : more ≡ false → (piece ≡ []) × IsAtEnd left_new

-- What is held begins with this line and a line feed, and little follows.
pub record BeginsLine (held line past : List ℕ) : Type 0 where
  pub parts : held ≡ line ++ 10 ∷ past
  pub whole : HasNoFeed line
  pub near : length past ≤ CHUNK

-- What stands at the front of what is held: a whole line; the beginning of one that is too long; or all that is
-- left of the input.
abbrev pub IsFront : List ℕ → Option (List ℕ) → Front → Type 0
IsFront held left (Line n) = (line : List ℕ) × (past : List ℕ) × (length line ≡ n) × BeginsLine held line past
IsFront held left TooLong = HasNoFeed held × (is_long held ≡ true)
IsFront held left Last = HasNoFeed held × IsAtEnd left

-- The front of what is held is known, and no more is held than it takes.
pub record Fills (held held_new : List ℕ) (left left_new : Option (List ℕ)) (front : Front) : Type 0 where
  pub grows : Grows held held_new left left_new
  pub is : IsFront held_new left_new front
  pub few : length held_new ≤ MOST_LINE + 1 + CHUNK

-- Why no piece was taken: for memory, and then what was read is lost; or by a fault, and then nothing was.
abbrev pub MoreFails : List ℕ → List ℕ → Option (List ℕ) → Option (List ℕ) → Type 0 → InputTrouble → Type 0
MoreFails held held_new left left_new rose Memory = (piece : List ℕ) × Consumes left left_new piece
MoreFails held held_new left left_new rose Failed = rose × (held_new ≡ held) × Keeps left left_new

-- Why the front of what is held is not known: the same, where something may have been read before.
abbrev pub FillFails : List ℕ → List ℕ → Option (List ℕ) → Option (List ℕ) → Type 0 → InputTrouble → Type 0
FillFails held held_new left left_new rose Memory = (piece : List ℕ) × Consumes left left_new piece
FillFails held held_new left left_new rose Failed = rose × Grows held held_new left left_new × HasNoFeed held_new
