-- When one row says nothing that another does not say.
use Rattle.std.specs.Prelude.{◌≡◌, ℕ, ◌<◌, Bool, true, List, length, slice_get, slice_index, Some}
use Rattle.contraction.specs.Answers.{AreLabels}
use Rattle.contraction.specs.Selecting.{Selected}
use Rattle.contraction.specs.declared.row.Row.{Row}

-- The merged list is this one, and all of it is selected.
abbrev pub IsAllOf : Selected → List ℕ → Type 0
IsAllOf s kept = (s.all ≡ kept) × (s.kept ≡ kept)

-- These are places of the row.
abbrev pub StandIn : {X : Type 0} → List X → List ℕ → Type 0
StandIn row places = (k : ℕ) → k < length places → slice_index places k < length row

-- Each entry of the second row, which stands at these places of the first, has there the label of the first of its
-- class.
abbrev pub JoinsNone : List ℕ → List ℕ → List ℕ → Type 0
JoinsNone labels others places =
    (k : ℕ) → k < length places → slice_index labels (slice_index places k) ≡
    slice_index labels (slice_index places (slice_index others k))

-- Each entry that is marked in the second row, which stands at these places of the first, is marked there.
abbrev pub MarksNone : List Bool → List Bool → List ℕ → Type 0
MarksNone marks others places =
    (k : ℕ) → k < length places → slice_get others k ≡ Some true → slice_get marks (slice_index places k) ≡ Some true

-- Each entry is marked as the first of its class.
abbrev pub AreOfClasses : List ℕ → List Bool → Type 0
AreOfClasses labels marks = (k : ℕ) → k < length labels → slice_get marks k ≡ slice_get marks (slice_index labels k)

-- The labels and marks of the row are so many.
pub record RowFitsAt (row : Row) (count : ℕ) : Type 0 where
  pub labels : AreLabels count row.labels
  pub first : length row.first.items ≡ count
  pub second : length row.second.items ≡ count

-- The first row has one mark for each of its classes, and the second, which stands at these places of it, joins and
-- marks none of its entries anew.
pub record AddsNone (row other : Row) (places : List ℕ) : Type 0 where
  pub first_steady : AreOfClasses row.labels row.first.items
  pub second_steady : AreOfClasses row.labels row.second.items
  pub labels : JoinsNone row.labels other.labels places
  pub first : MarksNone row.first.items other.first.items places
  pub second : MarksNone row.second.items other.second.items places
