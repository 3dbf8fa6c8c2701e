-- Two rising lists as one, the labels of both together, and their marks.
use Rattle.std.specs.Prelude.{◌≡◌, ◌≢◌, ℕ, ◌<◌, ◌≤◌, ◌⊎◌, ◌↔◌, Bool, true, List, [], ◌∷◌, ◌++◌, length, slice_get}
use Rattle.std.specs.Prelude.{slice_index, Option, Some, MatchOption}
use Rattle.station_graph.specs.Connection.{AreEnds}
use Rattle.station_graph.specs.Nodes.{Rises}
use Rattle.station_graph.proofs.ClassesLemmas.{KeepsLabels}
use Rattle.contraction.specs.declared.row.Row.{Row}
use Rattle.contraction.specs.declared.merge.Union.{Union}

-- x is the lesser of the next entries.
pub record IsLeastNext (a b : List ℕ) (i j x : ℕ) : Type 0 where
  pub one : (slice_get a i ≡ Some x) ⊎ (slice_get b j ≡ Some x)
  pub first : (y : ℕ) → slice_get a i ≡ Some y → x ≤ y
  pub second : (y : ℕ) → slice_get b j ≡ Some y → x ≤ y

-- The least node of both lists from these places on, or that none is left.
abbrev pub LeastNext : List ℕ → List ℕ → ℕ → ℕ → Option ℕ → Type 0
LeastNext a b i j answer = MatchOption answer ((length a ≤ i) × (length b ≤ j)) (IsLeastNext a b i j)

-- Where the node is the next one of the list, its place is noted.
abbrev pub Advances : List ℕ → ℕ → ℕ → List ℕ → List ℕ → Type 0
Advances nodes node place old new =
    ((slice_get nodes (length old) ≡ Some node) × (new ≡ old ++ place ∷ []))
    ⊎ ((slice_get nodes (length old) ≢ Some node) × (new ≡ old))

-- The first entries of the list stand at these places of the merged list.
pub record Follows (nodes kept places : List ℕ) : Type 0 where
  pub within : length places ≤ length nodes
  pub inside : (k : ℕ) → k < length places → slice_index places k < length kept
  pub stands : (k : ℕ) → k < length places → slice_index kept (slice_index places k) ≡ slice_index nodes k
  pub ahead : (k : ℕ) → k < length kept → length places < length nodes →
      slice_index kept k < slice_index nodes (length places)
  pub rises : Rises places

-- Each entry comes from one of the lists.
abbrev pub ComesFrom : List ℕ → List ℕ → ℕ → Type 0
ComesFrom first second k =
    ((p : ℕ) × (p < length first) × (slice_index first p ≡ k))
    ⊎ ((p : ℕ) × (p < length second) × (slice_index second p ≡ k))

-- The merged list of two rising lists, with the place of each of their nodes in it.
pub record Merging (a b kept first second : List ℕ) : Type 0 where
  pub rises : Rises kept
  pub first_follows : Follows a kept first
  pub second_follows : Follows b kept second
  pub comes : (k : ℕ) → k < length kept → ComesFrom first second k

-- The merged list, and where the entries of each list stand in it.
pub record IsMerged (a b kept first second : List ℕ) : Type 0 where
  pub rises : Rises kept
  pub first_len : length first ≡ length a
  pub second_len : length second ≡ length b
  pub first_inside : (k : ℕ) → k < length a → slice_index first k < length kept
  pub second_inside : (k : ℕ) → k < length b → slice_index second k < length kept
  pub first_stands : (k : ℕ) → k < length a → slice_index kept (slice_index first k) ≡ slice_index a k
  pub second_stands : (k : ℕ) → k < length b → slice_index kept (slice_index second k) ≡ slice_index b k
  pub first_rises : Rises first
  pub second_rises : Rises second
  pub comes : (k : ℕ) → k < length kept → ComesFrom first second k

-- One of the first i entries stands at one of these places, and its label at the other.
pub record EdgeBelow (places labels : List ℕ) (i a b : ℕ) : Type 0 where
  pub entry : ℕ
  pub below : entry < i
  pub ends : AreEnds (slice_index places entry) (slice_index places (slice_index labels entry)) a b

-- These are the places of an entry, before the i-th of the first row or the j-th of the second, and of the first
-- of its class.
abbrev pub EdgeOf : List ℕ → List ℕ → ℕ → List ℕ → List ℕ → ℕ → ℕ → ℕ → Type 0
EdgeOf first first_labels i second second_labels j a b =
    EdgeBelow first first_labels i a b ⊎ EdgeBelow second second_labels j a b

-- A marked entry among the first i stands in the class.
pub record MarksClass (places labels : List ℕ) (marks : List Bool) (i class : ℕ) : Type 0 where
  pub entry : ℕ
  pub below : entry < i
  pub marked : slice_get marks entry ≡ Some true
  pub stands : slice_index labels (slice_index places entry) ≡ class

-- A marked entry, before the i-th of the first row or the j-th of the second, stands in the class.
abbrev pub MarkedInEither : List ℕ → List ℕ → List Bool → ℕ → List ℕ → List Bool → ℕ → ℕ → Type 0
MarkedInEither labels first first_marks i second second_marks j class =
    MarksClass first labels first_marks i class ⊎ MarksClass second labels second_marks j class

-- A class is noted where it was, or where a marked entry among the first i stands in it.
pub record Noted (labels places : List ℕ) (marks : List Bool) (i : ℕ) (old new : List Bool) : Type 0 where
  pub len : length new ≡ length old
  pub noted : (c : ℕ) → c < length old → (slice_get new c ≡ Some true) ↔
      ((slice_get old c ≡ Some true) ⊎ MarksClass places labels marks i c)

-- The place is in a class of its own.
pub record IsAlone (labels : List ℕ) (place : ℕ) : Type 0 where
  pub own : slice_index labels place ≡ place
  pub only : (k : ℕ) → k < length labels → slice_index labels k ≡ place → k ≡ place

-- The labels of both rows together, over so many places.
abbrev pub LabelsOfBoth : List ℕ → List ℕ → List ℕ → List ℕ → ℕ → List ℕ → Type 0
LabelsOfBoth first first_labels second second_labels count labels =
    KeepsLabels (EdgeOf first first_labels (length first) second second_labels (length second)) count labels

-- A class is marked where a marked entry of either row stands in it.
pub record AreMarkedClasses (labels first : List ℕ) (first_marks : List Bool) (second : List ℕ)
    (second_marks classes : List Bool) : Type 0 where
  pub len : length classes ≡ length labels
  pub told : (c : ℕ) → c < length labels → (slice_get classes c ≡ Some true) ↔
      MarkedInEither labels first first_marks (length first) second second_marks (length second) c

-- A place is marked where a marked entry of either row stands in its class.
pub record MarksOfBoth (labels first : List ℕ) (first_marks : List Bool) (second : List ℕ)
    (second_marks marks : List Bool) : Type 0 where
  pub len : length marks ≡ length labels
  pub told : (k : ℕ) → k < length labels → (slice_get marks k ≡ Some true) ↔
      MarkedInEither labels first first_marks (length first) second second_marks (length second) (slice_index labels k)

-- The entries of a row of labels stand at these rising places among so many, and each label is at most its entry.
pub record LabelsFit (places : List ℕ) (count : ℕ) (labels : List ℕ) : Type 0 where
  pub len : length labels ≡ length places
  pub rises : Rises places
  pub inside : (k : ℕ) → k < length places → slice_index places k < count
  pub below : (k : ℕ) → k < length places → slice_index labels k ≤ k

-- The marks stand at these places, which are so many.
pub record MarksFit (places : List ℕ) (count : ℕ) (marks : List Bool) : Type 0 where
  pub len : length marks ≡ length places
  pub inside : (k : ℕ) → k < length places → slice_index places k < count

-- The labels and marks of the row are those of so many places.
pub record RowFits (places : List ℕ) (count : ℕ) (row : Row) : Type 0 where
  pub labels : LabelsFit places count row.labels
  pub first : length row.first.items ≡ length places
  pub second : length row.second.items ≡ length places

-- The third row is the first two together.
pub record RowOfBoth (u : Union) (x y row : Row) : Type 0 where
  pub labels : LabelsOfBoth u.first.items x.labels u.second.items y.labels (length u.kept.items) row.labels
  pub first : MarksOfBoth row.labels u.first.items x.first.items u.second.items y.first.items row.first.items
  pub second : MarksOfBoth row.labels u.first.items x.second.items u.second.items y.second.items row.second.items
