-- What a file of positions says.
use Rattle.std.specs.Prelude.{◌≡◌, ◌<◌, ◌≤◌, ◌-◌, ◌&&◌, ◌⊎◌, ℕ, Bool, not, List, [], ◌∷◌, length, take}
use Rattle.std.specs.Prelude.{map, Option, Some, None, is_some, unwrap_or, if◌then◌else◌, slice_index_or}
use Rattle.std.specs.List.{list_any}
use Rattle.std.specs.Str.{bytes_eq, is_utf8}
use Rattle.ilk_base.specs.declared.limits.TheConstants.{FILE_BYTES}
use Rattle.double_points.specs.Paths.{place_of}
use Rattle.double_points.specs.Words.{word_of}
use Rattle.ilk_base.specs.declared.words.Dbpos.{Dbpos}
use Rattle.ilk_base.specs.declared.words.Dbpos.TheVariants.{Lost}
use Rattle.double_points.specs.Rows.{rows_of}
use Rattle.ilk_base.specs.declared.words.InputRefusal.{InputRefusal}

-- A record, as the list of its fields.
abbrev pub Row : Type 0
Row = List (List ℕ)

-- The first of the faults 1, 2 and 3 that a record has.
abbrev pub form_fault : List (List ℕ) → Row → Option ℕ
form_fault paths (path ∷ word ∷ []) =
    if not (is_utf8 path && is_utf8 word) then Some 1
    else if not (is_some (place_of path paths)) then Some 2
    else if not (is_some (word_of word)) then Some 3
    else None
form_fault paths [] = Some 1
form_fault paths (a ∷ []) = Some 1
form_fault paths (a ∷ b ∷ c ∷ more) = Some 1

-- A record names this path.
abbrev pub names : List ℕ → Row → Bool
names path row = bytes_eq (slice_index_or row 0 []) path

-- The first fault of a record that comes after these.
abbrev pub row_fault : List (List ℕ) → List Row → Row → Option ℕ
row_fault paths before row =
    if is_some (form_fault paths row) then form_fault paths row
    else if list_any (names (slice_index_or row 0 [])) before then Some 4
    else None

-- The fault of the record at a place.
abbrev pub fault_at : List (List ℕ) → List Row → ℕ → Option ℕ
fault_at paths rows k = row_fault paths (take k rows) (slice_index_or rows k [])

-- No record has a fault.
abbrev pub Accepts : List (List ℕ) → List Row → Type 0
Accepts paths rows = (k : ℕ) → k < length rows → fault_at paths rows k ≡ None

-- This record is the first with a fault, and this is its fault.
pub record IsFirstRowFault (paths : List (List ℕ)) (rows : List Row) (r : InputRefusal) : Type 0 where
  pub counts : 1 ≤ r.line
  pub within : r.line ≤ length rows
  pub fault : fault_at paths rows (r.line - 1) ≡ Some r.number
  pub first : (k : ℕ) → k < r.line - 1 → fault_at paths rows k ≡ None

-- The word that a path is given, if it is.
abbrev pub given : List Row → List ℕ → Option Dbpos
given [] path = None
given (row ∷ rows) path = if names path row then word_of (slice_index_or row 1 []) else given rows path

-- Each switch's word.
abbrev pub words_of : List (List ℕ) → List Row → List Dbpos
words_of paths rows = map (λ path. unwrap_or (given rows path) Lost) paths

-- The readings that a file gives, where it is accepted.
abbrev pub IsAccepted : List (List ℕ) → List ℕ → List Dbpos → Type 0
IsAccepted paths bytes words = (length bytes ≤ FILE_BYTES) × Accepts paths (rows_of bytes)
    × (words ≡ words_of paths (rows_of bytes))

-- Why a file is refused.
abbrev pub IsRefusedWith : List (List ℕ) → List ℕ → InputRefusal → Type 0
IsRefusedWith paths bytes r = ((FILE_BYTES < length bytes) × (r ≡ record { number = 5; line = 0 }))
    ⊎ ((length bytes ≤ FILE_BYTES) × IsFirstRowFault paths (rows_of bytes) r)
