-- Values of no item, or of one.
use Rattle.std.specs.Prelude.{◌≡◌, ℕ, ◌<◌, ◌⊎◌, ◌↔◌, Bool, true, false, List, [], ◌∷◌, length, slice_index, replicate}
use Rattle.station_graph.specs.Connection.{Item}
use Rattle.contraction.specs.declared.row.Row.{Row}
use Rattle.contraction.specs.Answers.{Answers, Keeps, SameAt, MarkedAt}

-- This item alone.
abbrev pub Only : Item → Item → Type 0
Only item other = other ≡ item

-- No node is marked.
abbrev pub NoneMarked : List ℕ → List Bool → Type 0
NoneMarked kept marks = (n : ℕ) → MarkedAt kept marks n → ⊥

-- Two nodes have one label where they are the same, or where the bit says so.
abbrev pub PairLabels : List ℕ → List ℕ → Bool → Type 0
PairLabels kept labels same =
    (x y : ℕ) → Keeps kept x → Keeps kept y → SameAt kept labels x y ↔ ((x ≡ y) ⊎ (same ≡ true))

-- The value keeps two nodes, marks none, and labels them by three bits.
pub record IsPair (a b : ℕ) (coupled joined bonded : Bool) (c : Answers) : Type 0 where
  pub kept : (n : ℕ) → Keeps c.kept n ↔ ((n ≡ a) ⊎ (n ≡ b))
  pub coupled_pair : PairLabels c.kept c.coupled coupled
  pub joined_pair : PairLabels c.kept c.joined joined
  pub bonded_pair : PairLabels c.kept c.bonded bonded
  pub no_energisable : NoneMarked c.kept c.energisable
  pub no_earthable : NoneMarked c.kept c.earthable
  pub no_fed : NoneMarked c.kept c.fed
  pub no_loaded : NoneMarked c.kept c.loaded

-- The value keeps one node, marked by four bits.
pub record IsSingle (a : ℕ) (energisable earthable fed loaded : Bool) (c : Answers) : Type 0 where
  pub kept : c.kept ≡ a ∷ []
  pub energisable_is : c.energisable ≡ energisable ∷ []
  pub earthable_is : c.earthable ≡ earthable ∷ []
  pub fed_is : c.fed ≡ fed ∷ []
  pub loaded_is : c.loaded ≡ loaded ∷ []
  pub coupled_is : c.coupled ≡ 0 ∷ []
  pub joined_is : c.joined ≡ 0 ∷ []
  pub bonded_is : c.bonded ≡ 0 ∷ []

-- Each place is in a class of its own.
pub record AreAlone (count : ℕ) (labels : List ℕ) : Type 0 where
  pub len : length labels ≡ count
  pub alone : (k : ℕ) → k < count → slice_index labels k ≡ k

-- A row of so many places, each in a class of its own and without a mark.
pub record IsBare (count : ℕ) (row : Row) : Type 0 where
  pub labels : AreAlone count row.labels
  pub first : row.first.items ≡ replicate count false
  pub second : row.second.items ≡ replicate count false

-- Such a row, and as many labels, each of a class of its own.
pub record AreBare (count : ℕ) (row : Row) (labels : List ℕ) : Type 0 where
  pub bare : IsBare count row
  pub alone : AreAlone count labels
