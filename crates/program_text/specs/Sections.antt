-- Sections of lines, in which no line stands before one that it reads.
use Rattle.std.specs.Prelude.{◌≡◌, ◌↔◌, ◌⊎◌, ◌≤◌, ◌<◌, ℕ, List, slice_get, slice_index_or, Some}
use Rattle.structured_text.specs.declared.name.Name.{Name}
use Rattle.structured_text.specs.declared.name.Name.TheVariants.{Off, On, May, Sure, Opens, Closes}
use Rattle.structured_text.specs.declared.line.Line.{Line}
use Rattle.structured_text.specs.Reads.{FormulaReads}
use Rattle.structured_text.specs.Order.{IsInput, IsSetIn, AreInOrder, AreAmong}
use Rattle.program_text.specs.declared.section_order.TheConstants.{LAST}
use Rattle.program_text.specs.declared.section_keys.Keys.{Keys}

-- The section behind which a variable can be read.
abbrev pub key_in : Keys → Name → ℕ
key_in keys (Off i) = 0
key_in keys (On i) = 0
key_in keys (May n) = slice_index_or keys.may.items n LAST
key_in keys (Sure n) = slice_index_or keys.sure.items n LAST
key_in keys (Opens i) = LAST
key_in keys (Closes i) = LAST

-- None is later than the last.
abbrev pub IsSmall : List ℕ → Type 0
IsSmall keys = (n : ℕ) → slice_index_or keys n LAST ≤ LAST

abbrev pub AreSmall : Keys → Type 0
AreSmall keys = IsSmall keys.may.items × IsSmall keys.sure.items

-- The section of a line.
abbrev pub section_at : List ℕ → ℕ → ℕ
section_at keys n = slice_index_or keys n 0

abbrev pub AreKeysSmall : List ℕ → Type 0
AreKeysSmall keys = (n : ℕ) → section_at keys n ≤ LAST

-- A line before line n that sets the variable stands in no later section than line n.
abbrev pub RisesTo : List Line → List ℕ → ℕ → Name → Type 0
RisesTo lines keys n m =
    (k : ℕ) (y : Line) → k < n → slice_get lines k ≡ Some y → ¬ IsInput y.name → y.name ≡ m →
    section_at keys k ≤ section_at keys n

-- So it is of each variable that one of the first lines reads.
abbrev pub KeysRise : List Line → List ℕ → ℕ → Type 0
KeysRise lines keys count =
    (n : ℕ) (x : Line) → n < count → slice_get lines n ≡ Some x → FormulaReads (RisesTo lines keys n) x.formula

-- A line of an earlier section, or one before line n of this section.
abbrev pub IsTaken : List ℕ → ℕ → ℕ → ℕ → Type 0
IsTaken keys section n k = (section_at keys k < section) ⊎ ((section_at keys k ≡ section) × (k < n))

-- The lines are those of the earlier sections, and of this section those before line n.
pub record AreSortedTo (lines : List Line) (keys : List ℕ) (section n : ℕ) (sorted : List Line) : Type 0 where
  pub order : AreInOrder IsInput sorted
  pub among : AreAmong sorted lines
  pub sets : (m : Name) → IsSetIn sorted m
      ↔ ((k : ℕ) × (y : Line) × (slice_get lines k ≡ Some y) × (y.name ≡ m) × IsTaken keys section n k)

-- The lines are the same in another order.
pub record AreReordered (lines sorted : List Line) : Type 0 where
  pub order : AreInOrder IsInput sorted
  pub among : AreAmong sorted lines
  pub sets : (m : Name) → IsSetIn lines m → IsSetIn sorted m
