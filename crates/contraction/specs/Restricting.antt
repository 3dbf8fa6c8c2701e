-- Rows of fewer places.
use Rattle.std.specs.Prelude.{◌≡◌, ◌≢◌, ℕ, ◌<◌, ◌≤◌, ◌⊎◌, ◌↔◌, Bool, true, List, length, slice_get, slice_index}
use Rattle.std.specs.Prelude.{Some, Contains}
use Rattle.contraction.specs.declared.row.Row.{Row}
use Rattle.contraction.specs.declared.merge.Union.{Union}
use Rattle.contraction.specs.Merging.{LabelsOfBoth, MarksOfBoth}
use Rattle.station_graph.specs.Nodes.{Rises}
use Rattle.contraction.specs.Answers.{AreLabels}
use Rattle.contraction.specs.Rows.{words, flags}

-- Two entries of the row are equal exactly where those of the other row at their places are.
pub record LabelsRestrict (labels places row : List ℕ) : Type 0 where
  pub are_labels : AreLabels (length places) row
  pub same : (i j : ℕ) → i < length places → j < length places → (slice_index row i ≡ slice_index row j) ↔
      (slice_index labels (slice_index places i) ≡ slice_index labels (slice_index places j))

-- The bytes are those of the labels of these places alone.
pub record WordsAt (labels places row : List ℕ) : Type 0 where
  pub few : List ℕ
  pub are : LabelsRestrict labels places few
  pub bytes : row ≡ words few

-- Entry k of the row is that of the other row at the place k.
pub record Picks {X : Type 0} (all : List X) (places : List ℕ) (row : List X) : Type 0 where
  pub len : length row ≡ length places
  pub told : (k : ℕ) → k < length places → slice_get row k ≡ slice_get all (slice_index places k)

-- The marks are those of two rows together at these places of their merged list.
pub record MarksAt (labels places first : List ℕ) (first_marks : List Bool) (second : List ℕ)
    (second_marks row : List Bool) : Type 0 where
  pub wide : List Bool
  pub composes : MarksOfBoth labels first first_marks second second_marks wide
  pub restricts : Picks wide places row

-- The bytes are those of the marks of two rows together at these places of their merged list.
pub record FlagsAt (labels places first : List ℕ) (first_marks : List Bool) (second : List ℕ)
    (second_marks : List Bool) (row : List ℕ) : Type 0 where
  pub marks : List Bool
  pub are : MarksAt labels places first first_marks second second_marks marks
  pub bytes : row ≡ flags marks

-- The third row is the first two together at these places of their merged list.
pub record RowOfBothAt (u : Union) (places : List ℕ) (x y row : Row) : Type 0 where
  pub wide : List ℕ
  pub composes : LabelsOfBoth u.first.items x.labels u.second.items y.labels (length u.kept.items) wide
  pub restricts : LabelsRestrict wide places row.labels
  pub first : MarksAt wide places u.first.items x.first.items u.second.items y.first.items row.first.items
  pub second : MarksAt wide places u.first.items x.second.items u.second.items y.second.items row.second.items

-- The row is the other one at these places.
pub record RowRestricts (all : Row) (places : List ℕ) (row : Row) : Type 0 where
  pub labels : LabelsRestrict all.labels places row.labels
  pub first : Picks all.first.items places row.first.items
  pub second : Picks all.second.items places row.second.items

-- One of the first i of these nodes is this one.
pub record IsNamed (nodes : List ℕ) (i n : ℕ) : Type 0 where
  pub entry : ℕ
  pub below : entry < i
  pub is : slice_index nodes entry ≡ n

-- A node is noted where it was, or where it is one of the first i of these.
pub record NamedBelow (nodes : List ℕ) (i : ℕ) (old new : List Bool) : Type 0 where
  pub len : length new ≡ length old
  pub named : (n : ℕ) → n < length old → (slice_get new n ≡ Some true) ↔
      ((slice_get old n ≡ Some true) ⊎ IsNamed nodes i n)

-- The places below i of the list at which one of these nodes stands, rising.
pub record PlacesBelow (nodes kept : List ℕ) (i : ℕ) (places : List ℕ) : Type 0 where
  pub below : (k : ℕ) → k < length places → slice_index places k < i
  pub rises : Rises places
  pub named : (k : ℕ) → k < length places → Contains nodes (slice_index kept (slice_index places k))
  pub found : (p : ℕ) → p < i → Contains nodes (slice_index kept p) →
      (k : ℕ) × (k < length places) × (slice_index places k ≡ p)

-- The places of these nodes in the kept list.
abbrev pub PlacesOf : List ℕ → List ℕ → List ℕ → Type 0
PlacesOf nodes kept places = PlacesBelow nodes kept (length kept) places

-- The first place with the label of place j.
pub record FirstAt (labels places : List ℕ) (j first : ℕ) : Type 0 where
  pub most : first ≤ j
  pub label : slice_index labels (slice_index places first) ≡ slice_index labels (slice_index places j)
  pub least : (k : ℕ) → k < first →
      slice_index labels (slice_index places k) ≢ slice_index labels (slice_index places j)
