-- Where the formulas of a text stand.
use Rattle.std.specs.Prelude.{◌≡◌, ◌⊎◌, ◌<◌, ◌≤◌, ℕ, List, length, slice_get, Some}
use Rattle.interlock_terms.specs.declared.term.Term.{Term}
use Rattle.interlock_terms.specs.declared.term.Term.TheVariants.{Always, Closed, Both, Either}
use Rattle.structured_text.specs.declared.name.Name.{Name}
use Rattle.structured_text.specs.declared.line.Line.{Line}
use Rattle.structured_text.specs.Reads.{FormulaReads}
use Rattle.program_text.specs.declared.place.Place.{Place}
use Rattle.program_text.specs.declared.place.Place.TheVariants.{Nowhere, Inside, Named}
use Rattle.program_text.specs.declared.reading.Reading.{Reading}
use Rattle.program_text.specs.Names.{name_in}

-- The place of a formula that one line more reads: inside the first line that reads it, and on its own from the second on.
abbrev pub place_read : Place → Place
place_read Nowhere = Inside
place_read Inside = Named
place_read Named = Named

-- The formula of this number has a line; it stands inside the one that reads it; it stands somewhere.
abbrev pub IsNamed : List Place → ℕ → Type 0
IsNamed places n = slice_get places n ≡ Some Named

abbrev pub IsInside : List Place → ℕ → Type 0
IsInside places n = slice_get places n ≡ Some Inside

abbrev pub IsRead : List Place → ℕ → Type 0
IsRead places n = IsNamed places n ⊎ IsInside places n

-- What has a line keeps it, and what stands somewhere still does.
pub record HaveRisen (old new : List Place) : Type 0 where
  pub len : length new ≡ length old
  pub named : (n : ℕ) → IsNamed old n → IsNamed new n
  pub read : (n : ℕ) → IsRead old n → IsRead new n

-- Each formula that the term names is one of these.
abbrev pub EachNamed : (ℕ → Type 0) → Term → Type 0
EachNamed P Always = Unit {0}
EachNamed P (Closed s) = Unit {0}
EachNamed P (Both a b) = P a × P b
EachNamed P (Either a b) = P a × P b

-- The term is of two formulas, and both are of these.
abbrev pub IsOfTwo : (ℕ → Type 0) → Term → Type 0
IsOfTwo P Always = ⊥
IsOfTwo P (Closed s) = ⊥
IsOfTwo P (Both a b) = P a × P b
IsOfTwo P (Either a b) = P a × P b

-- From this one on, what stands somewhere names formulas that stand somewhere.
abbrev pub ReadsAreRead : List Term → ℕ → List Place → Type 0
ReadsAreRead terms k places =
    (n : ℕ) (t : Term) → k ≤ n → slice_get terms n ≡ Some t → IsRead places n → EachNamed (IsRead places) t

-- Each formula has a place. What has a line names formulas that stand somewhere; what stands inside a line is of two that
-- have lines of their own.
pub record ArePlaced (terms : List Term) (places : List Place) : Type 0 where
  pub len : length places ≡ length terms
  pub named : (n : ℕ) (t : Term) → slice_get terms n ≡ Some t → IsNamed places n → EachNamed (IsRead places) t
  pub inside : (n : ℕ) (t : Term) → slice_get terms n ≡ Some t → IsInside places n → IsOfTwo (IsNamed places) t

-- The variable is none of a formula that has no line.
abbrev pub IsSet : Reading → List Place → Name → Type 0
IsSet reading places m = (n : ℕ) → m ≡ name_in reading n → n < length places → IsNamed places n

-- The lines read variables that are set alone.
abbrev pub ReadWhatIsSet : Reading → List Place → List Line → Type 0
ReadWhatIsSet reading places lines =
    (i : ℕ) (x : Line) → slice_get lines i ≡ Some x → FormulaReads (IsSet reading places) x.formula
