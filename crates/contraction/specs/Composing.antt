-- How the answers of a composition and of a restriction follow from those of what they were made of.
use Rattle.std.specs.Prelude.{◌≡◌, ℕ, ◌⊎◌, ◌↔◌, Bool, List, [], Contains}
use Rattle.station_graph.specs.Diagram.{Diagram}
use Rattle.station_graph.specs.Connection.{Linked}
use Rattle.contraction.specs.Answers.{Answers, Keeps, SameAt, MarkedAt, SaysCoupled, SaysJoined, SaysBonded}
use Rattle.contraction.specs.Answers.{SaysEnergisable, SaysEarthable, SaysFed, SaysLoaded, IsContraction}
use Rattle.contraction.specs.Rows.{gap_row, load_row, AreRowsOf}
use Rattle.contraction.specs.Stands.{Among, GapStandsFor, LoadStandsFor}

-- One of two values gives two nodes one label.
abbrev pub SameInEither : List ℕ → List ℕ → List ℕ → List ℕ → ℕ → ℕ → Type 0
SameInEither kept labels other_kept other_labels a b = SameAt kept labels a b ⊎ SameAt other_kept other_labels a b

-- Two nodes have one label exactly where a list of nodes leads from one to the other in which each two
-- neighbours have one label in one of the values.
abbrev pub LabelsCompose : List ℕ → List ℕ → List ℕ → List ℕ → List ℕ → List ℕ → Type 0
LabelsCompose kept1 labels1 kept2 labels2 kept labels =
    (a b : ℕ) → Keeps kept a → Keeps kept b → SameAt kept labels a b ↔
    Linked (SameInEither kept1 labels1 kept2 labels2) a b

-- A node is marked exactly where such a list leads to a node that one of the values marks.
abbrev pub MarksCompose : List ℕ → List ℕ → List Bool → List ℕ → List ℕ → List Bool → List ℕ → List Bool → Type 0
MarksCompose kept1 labels1 marks1 kept2 labels2 marks2 kept marks =
    (a : ℕ) → Keeps kept a → MarkedAt kept marks a ↔
    ((m : ℕ) × Linked (SameInEither kept1 labels1 kept2 labels2) a m
    × (MarkedAt kept1 marks1 m ⊎ MarkedAt kept2 marks2 m))

-- The third value is the first two together: it keeps what either keeps, and its classes are closed up
-- over both.
pub record Composes (x y c : Answers) : Type 0 where
  pub kept : (n : ℕ) → Keeps c.kept n ↔ (Keeps x.kept n ⊎ Keeps y.kept n)
  pub coupled : LabelsCompose x.kept x.coupled y.kept y.coupled c.kept c.coupled
  pub joined : LabelsCompose x.kept x.joined y.kept y.joined c.kept c.joined
  pub bonded : LabelsCompose x.kept x.bonded y.kept y.bonded c.kept c.bonded
  pub energisable : MarksCompose x.kept x.coupled x.energisable y.kept y.coupled y.energisable c.kept c.energisable
  pub earthable : MarksCompose x.kept x.coupled x.earthable y.kept y.coupled y.earthable c.kept c.earthable
  pub fed : MarksCompose x.kept x.joined x.fed y.kept y.joined y.fed c.kept c.fed
  pub loaded : MarksCompose x.kept x.joined x.loaded y.kept y.joined y.loaded c.kept c.loaded

-- The second value keeps some of the nodes of the first, with the same answers on them.
pub record Restricts (c r : Answers) : Type 0 where
  pub kept : (n : ℕ) → Keeps r.kept n → Keeps c.kept n
  pub coupled : (a b : ℕ) → Keeps r.kept a → Keeps r.kept b → SaysCoupled r a b ↔ SaysCoupled c a b
  pub joined : (a b : ℕ) → Keeps r.kept a → Keeps r.kept b → SaysJoined r a b ↔ SaysJoined c a b
  pub bonded : (a b : ℕ) → Keeps r.kept a → Keeps r.kept b → SaysBonded r a b ↔ SaysBonded c a b
  pub energisable : (a : ℕ) → Keeps r.kept a → SaysEnergisable r a ↔ SaysEnergisable c a
  pub earthable : (a : ℕ) → Keeps r.kept a → SaysEarthable r a ↔ SaysEarthable c a
  pub fed : (a : ℕ) → Keeps r.kept a → SaysFed r a ↔ SaysFed c a
  pub loaded : (a : ℕ) → Keeps r.kept a → SaysLoaded r a ↔ SaysLoaded c a

-- In the gap view alone the third value is the first two together, on some of the nodes that they keep.
pub record ComposesGap (x y c : Answers) : Type 0 where
  pub kept : (n : ℕ) → Keeps c.kept n → Keeps x.kept n ⊎ Keeps y.kept n
  pub coupled : LabelsCompose x.kept x.coupled y.kept y.coupled c.kept c.coupled
  pub energisable : MarksCompose x.kept x.coupled x.energisable y.kept y.coupled y.energisable c.kept c.energisable
  pub earthable : MarksCompose x.kept x.coupled x.earthable y.kept y.coupled y.earthable c.kept c.earthable

-- In the load view alone the third value is the first two together, on some of the nodes that they keep.
pub record ComposesLoad (x y c : Answers) : Type 0 where
  pub kept : (n : ℕ) → Keeps c.kept n → Keeps x.kept n ⊎ Keeps y.kept n
  pub joined : LabelsCompose x.kept x.joined y.kept y.joined c.kept c.joined
  pub bonded : LabelsCompose x.kept x.bonded y.kept y.bonded c.kept c.bonded
  pub fed : MarksCompose x.kept x.joined x.fed y.kept y.joined y.fed c.kept c.fed
  pub loaded : MarksCompose x.kept x.joined x.loaded y.kept y.joined y.loaded c.kept c.loaded

-- The value on exactly these nodes has the gap view of two values together, and the load view of no item.
pub record IsGapOfBoth (nodes : List ℕ) (x y c : Answers) : Type 0 where
  pub contraction : IsContraction c
  pub kept : (n : ℕ) → Keeps c.kept n ↔ Contains nodes n
  pub composes : ComposesGap x y c
  pub bare : (d : Diagram) (v : List Bool) → LoadStandsFor (Among []) d v c

-- The value on exactly these nodes has the load view of two values together, and the gap view of no item.
pub record IsLoadOfBoth (nodes : List ℕ) (x y c : Answers) : Type 0 where
  pub contraction : IsContraction c
  pub kept : (n : ℕ) → Keeps c.kept n ↔ Contains nodes n
  pub composes : ComposesLoad x y c
  pub bare : (d : Diagram) (v : List Bool) → GapStandsFor (Among []) d v c

-- The bytes are the gap row of a value on exactly these nodes that has the gap view of two values together.
pub record IsGapRowOfBoth (nodes : List ℕ) (x y : Answers) (bytes : List ℕ) : Type 0 where
  pub value : Answers
  pub contraction : IsContraction value
  pub kept : (n : ℕ) → Keeps value.kept n ↔ Contains nodes n
  pub composes : ComposesGap x y value
  pub row : bytes ≡ gap_row value

-- The bytes are the load row of a value on exactly these nodes that has the load view of two values together.
pub record IsLoadRowOfBoth (nodes : List ℕ) (x y : Answers) (bytes : List ℕ) : Type 0 where
  pub value : Answers
  pub contraction : IsContraction value
  pub kept : (n : ℕ) → Keeps value.kept n ↔ Contains nodes n
  pub composes : ComposesLoad x y value
  pub row : bytes ≡ load_row value

-- The texts are both rows of a value on exactly these nodes that has both views of two values together.
pub record AreRowsOfBoth (nodes : List ℕ) (x y : Answers) (gap_text load_text : List ℕ) : Type 0 where
  pub value : Answers
  pub rows : AreRowsOf value gap_text load_text
  pub kept : (n : ℕ) → Keeps value.kept n ↔ Contains nodes n
  pub gap : ComposesGap x y value
  pub load : ComposesLoad x y value
