-- How far an input is read, line by line.
use Rattle.std.specs.Prelude.{◌≡◌, ◌≤◌, ◌<◌, ◌++◌, ◌∷◌, ⊤, ℕ, List, [], length, Option, Result, Ok, Err, IfSome, count_by}
use Rattle.std.specs.Str.Lines.{lines}
use Rattle.std.specs.Io.KnownBytes.{Consumes}
use Rattle.node_session.specs.Reading.{is_feed, HasNoFeed}
use Rattle.node_session.specs.declared.request.TheConstants.{MOST_LINE}
use Rattle.node_session.specs.declared.reader.TheConstants.{CHUNK}
use Rattle.node_session.specs.declared.reader.InputTrouble.{InputTrouble}
use Rattle.node_session.specs.declared.reader.InputTrouble.TheVariants.{Memory, Failed}
use Rattle.stored_session.specs.declared.read.NextLine.{NextLine}
use Rattle.stored_session.specs.declared.read.NextLine.TheVariants.{Whole, Last, TooLong, End}
use Rattle.stored_session.specs.Holding.{HoldsLine}

-- These whole lines were taken of the input, and these bytes are held that follow them.
pub record ReadsThrough (before now : Option (List ℕ)) (held : List ℕ) (done : List (List ℕ)) : Type 0 where
  pub taken : List ℕ
  pub consumed : Consumes before now (taken ++ held)
  pub ends : (rest : List ℕ) → lines (taken ++ rest) ≡ done ++ lines rest
  pub feeds : count_by is_feed taken ≡ length done

-- The input is these bytes, where it is told, and these are its lines.
pub record HasLines (input : Option (List ℕ)) (content : List ℕ) (all : List (List ℕ)) : Type 0 where
  pub told : IfSome input (λ known. known ≡ content)
  pub cut : lines content ≡ all

-- The input begins with these lines.
abbrev pub BeginsStored : Option (List ℕ) → List (List ℕ) → Type 0
BeginsStored input done = (content : List ℕ) × (more : List (List ℕ)) × HasLines input content (done ++ more)

-- The input is these lines, and all of it was taken.
abbrev pub IsAll : Option (List ℕ) → Option (List ℕ) → List (List ℕ) → Type 0
IsAll input now all = (content : List ℕ) × HasLines input content all × Consumes input now content

-- What these lines take of the input was taken, and little past it.
pub record TakesNear (before now : Option (List ℕ)) (done : List (List ℕ)) : Type 0 where
  pub through : List ℕ
  pub past : List ℕ
  pub consumed : Consumes before now (through ++ past)
  pub ended : lines through ≡ done
  pub near : length past ≤ CHUNK

-- So far the input was taken, and each line whose end was read is one of these.
pub record ReadsTo (before now : Option (List ℕ)) (done : List (List ℕ)) : Type 0 where
  pub held : List ℕ
  pub reads : ReadsThrough before now held done
  pub unended : HasNoFeed held

-- The next line of the input is this one.
abbrev pub HasNext : Option (List ℕ) → List (List ℕ) → List ℕ → Type 0
HasNext input done line = BeginsStored input (done ++ line ∷ [])

-- What comes next, after these lines: a line with an end; the last one, without; one that is too long; nothing. A
-- line that is too long is refused before its end is seen.
abbrev pub ComesNext : Option (List ℕ) → Option (List ℕ) → List ℕ → List (List ℕ) → NextLine → Type 0
ComesNext input now held done Whole = ReadsThrough input now held done × HoldsLine held
ComesNext input now held done Last = IsAll input now (done ++ held ∷ [])
ComesNext input now held done TooLong = (line : List ℕ) × HasNext input done line × (MOST_LINE < length line)
ComesNext input now held done End = IsAll input now done

-- It is a line that is not too long.
abbrev pub IsLine : NextLine → Type 0
IsLine Whole = ⊤
IsLine Last = ⊤
IsLine TooLong = ⊥
IsLine End = ⊥

-- The same, or why it is not known; `rose` is that the input's count of faults rose.
abbrev pub GoesOn : Option (List ℕ) → Option (List ℕ) → List ℕ → List (List ℕ) → Type 0
    → Result NextLine InputTrouble → Type 0
GoesOn input now held done rose (Ok next) = ComesNext input now held done next
GoesOn input now held done rose (Err Memory) = BeginsStored input done
GoesOn input now held done rose (Err Failed) = rose × ReadsTo input now done
