-- Some of the nodes of a merged list, and what two rows together say of them.
use Rattle.std.specs.Prelude.{◌≡◌, ◌↔◌, ℕ, ◌<◌, ◌≤◌, Bool, true, List, ◌++◌, length, slice_index}
use Rattle.station_graph.specs.declared.limits.TheConstants.{NODES}
use Rattle.contraction.specs.declared.row.Row.{Row}
use Rattle.contraction.specs.declared.layout.Layout.{Layout}
use Rattle.contraction.specs.declared.few_rows.TheConstants.{FEW}
use Rattle.contraction.specs.Merging.{IsMerged, LabelsOfBoth}
use Rattle.contraction.specs.Restricting.{PlacesOf, Picks, LabelsRestrict, WordsAt, MarksAt, FlagsAt}
use Rattle.contraction.specs.Restricting.{RowOfBothAt}
use Rattle.contraction.specs.Rows.{words, flags}

-- The kept nodes of two contractions, and the nodes that are asked for; both lists merged, with the places in that of
-- the nodes of each, and of those that are asked for, and these nodes, rising.
pub record Selected : Type 0 where
  pub first : List ℕ
  pub second : List ℕ
  pub nodes : List ℕ
  pub all : List ℕ
  pub first_places : List ℕ
  pub second_places : List ℕ
  pub places : List ℕ
  pub kept : List ℕ

-- The merged list and the places are those of the other lists.
pub record ArePlaced (s : Selected) : Type 0 where
  pub merged : IsMerged s.first s.second s.all s.first_places s.second_places
  pub asked : PlacesOf s.nodes s.all s.places
  pub picked : Picks s.all s.places s.kept

-- Two lists of nodes are merged, and of the merged list these nodes are selected. It is noted whether the merged list and
-- the selected nodes are both the first list again.
pub record IsLayout (first second nodes : List ℕ) (s : Layout) : Type 0 where
  pub merged : IsMerged first second s.union.kept.items s.union.first.items s.union.second.items
  pub places : PlacesOf nodes s.union.kept.items s.places.items
  pub kept : Picks s.union.kept.items s.places.items s.kept.items
  pub bytes : s.bytes ≡ words s.kept.items
  pub is_first : (s.is_first ≡ true) ↔ ((s.union.kept.items ≡ first) × (s.kept.items ≡ first))

-- There are at most as many nodes as a station has, and the selected places are among them.
pub record LayoutFits (s : Layout) : Type 0 where
  pub few : length s.union.kept.items ≤ NODES
  pub fewer : length s.places.items ≤ NODES
  pub inside : (k : ℕ) → k < length s.places.items → slice_index s.places.items k < length s.union.kept.items

-- The third row is that of the selected places in the first two rows together.
abbrev pub RowSelected : Layout → Row → Row → Row → Type 0
RowSelected s = RowOfBothAt s.union s.places.items

-- So for labels alone.
pub record LabelsSelected (s : Layout) (x y labels : List ℕ) : Type 0 where
  pub wide : List ℕ
  pub composes : LabelsOfBoth s.union.first.items x s.union.second.items y (length s.union.kept.items) wide
  pub restricts : LabelsRestrict wide s.places.items labels

-- It has few places.
pub record IsSmall (s : Layout) : Type 0 where
  pub all : length s.union.kept.items ≤ FEW
  pub some : length s.places.items ≤ FEW

-- The bytes are those of the labels of two lists together, on the selected places.
pub record AreBonds (s : Layout) (x y row : List ℕ) : Type 0 where
  pub wide : List ℕ
  pub composes : LabelsOfBoth s.union.first.items x s.union.second.items y (length s.union.kept.items) wide
  pub written : WordsAt wide s.places.items row

-- The bytes are those of the marks of two rows together, on the selected places, where all have these labels.
pub record AreBothMarks (s : Layout) (wide : List ℕ) (x y : Row) (row : List ℕ) : Type 0 where
  pub first : List ℕ
  pub second : List ℕ
  pub firsts : FlagsAt wide s.places.items s.union.first.items x.first.items s.union.second.items y.first.items first
  pub seconds : FlagsAt wide s.places.items s.union.first.items x.second.items s.union.second.items y.second.items
      second
  pub bytes : row ≡ first ++ second

-- The bytes are those of the labels and marks of two rows together, on the selected places, where all places have these
-- labels.
pub record IsGapPart (s : Layout) (wide : List ℕ) (x y : Row) (row : List ℕ) : Type 0 where
  pub labels : List ℕ
  pub marks : List ℕ
  pub written : WordsAt wide s.places.items labels
  pub marked : AreBothMarks s wide x y marks
  pub bytes : row ≡ labels ++ marks

-- The same with the labels of the bonds of both, which stand beside those of the rows.
pub record IsLoadPart (s : Layout) (wide : List ℕ) (x y : Row) (x_bonds y_bonds row : List ℕ) : Type 0 where
  pub labels : List ℕ
  pub bonds : List ℕ
  pub marks : List ℕ
  pub written : WordsAt wide s.places.items labels
  pub bonded : AreBonds s x_bonds y_bonds bonds
  pub marked : AreBothMarks s wide x y marks
  pub bytes : row ≡ labels ++ (bonds ++ marks)

-- The text has the selected nodes, and the labels and marks of two rows together on them.
pub record IsGapText (s : Layout) (x y : Row) (text : List ℕ) : Type 0 where
  pub wide : List ℕ
  pub labels : List ℕ
  pub first : List Bool
  pub second : List Bool
  pub composes : LabelsOfBoth s.union.first.items x.labels s.union.second.items y.labels (length s.union.kept.items)
      wide
  pub restricts : LabelsRestrict wide s.places.items labels
  pub firsts : MarksAt wide s.places.items s.union.first.items x.first.items s.union.second.items y.first.items first
  pub seconds : MarksAt wide s.places.items s.union.first.items x.second.items s.union.second.items y.second.items
      second
  pub bytes : text ≡ s.bytes ++ words labels ++ flags first ++ flags second

-- The same with the labels of the bonds of both, which stand beside those of the rows.
pub record IsLoadText (s : Layout) (x y : Row) (x_bonds y_bonds text : List ℕ) : Type 0 where
  pub wide : List ℕ
  pub labels : List ℕ
  pub bonds : List ℕ
  pub first : List Bool
  pub second : List Bool
  pub composes : LabelsOfBoth s.union.first.items x.labels s.union.second.items y.labels (length s.union.kept.items)
      wide
  pub restricts : LabelsRestrict wide s.places.items labels
  pub bonded : LabelsSelected s x_bonds y_bonds bonds
  pub firsts : MarksAt wide s.places.items s.union.first.items x.first.items s.union.second.items y.first.items first
  pub seconds : MarksAt wide s.places.items s.union.first.items x.second.items s.union.second.items y.second.items
      second
  pub bytes : text ≡ s.bytes ++ words labels ++ words bonds ++ flags first ++ flags second
