-- What the value of a contraction answers on its kept nodes.
use Rattle.std.specs.Prelude.{◌≡◌, ℕ, ◌<◌, ◌≤◌, ◌↔◌, Bool, true, List, length, slice_get, slice_index, Some}
use Rattle.station_graph.specs.Nodes.{Rises}
use Rattle.station_graph.specs.declared.limits.TheConstants.{NODES}
use Rattle.contraction.specs.declared.supply.Supply as word
use Rattle.contraction.specs.declared.supply.Supply.TheVariants.{Bare, Tapped, Fed}
use Rattle.station_graph.specs.Views.{Supply, bare, tapped, fed}

-- The kept nodes, and rows with an entry for each of them. A row of labels has equal entries where two
-- nodes are coupled, joined or bonded; a row of marks has a bit where a node is energisable, earthable,
-- fed, or loaded, which is fed or tapped.
pub record Answers : Type 0 where
  pub kept : List ℕ
  pub coupled : List ℕ
  pub joined : List ℕ
  pub bonded : List ℕ
  pub energisable : List Bool
  pub earthable : List Bool
  pub fed : List Bool
  pub loaded : List Bool

-- The node stands at this place of the list.
abbrev pub IsAt : List ℕ → ℕ → ℕ → Type 0
IsAt kept place n = slice_get kept place ≡ Some n

-- The node is kept.
pub record Keeps (kept : List ℕ) (n : ℕ) : Type 0 where
  pub place : ℕ
  pub at : IsAt kept place n

-- Two kept nodes have one label.
pub record SameAt (kept labels : List ℕ) (a b : ℕ) : Type 0 where
  pub first : ℕ
  pub second : ℕ
  pub at_first : IsAt kept first a
  pub at_second : IsAt kept second b
  pub same : slice_index labels first ≡ slice_index labels second

-- A kept node is marked.
pub record MarkedAt (kept : List ℕ) (marks : List Bool) (n : ℕ) : Type 0 where
  pub place : ℕ
  pub at : IsAt kept place n
  pub marked : slice_get marks place ≡ Some true

-- The answers on kept nodes.
abbrev pub SaysCoupled : Answers → ℕ → ℕ → Type 0
SaysCoupled c = SameAt c.kept c.coupled

-- Two kept nodes are joined.
abbrev pub SaysJoined : Answers → ℕ → ℕ → Type 0
SaysJoined c = SameAt c.kept c.joined

-- Two kept nodes are bonded.
abbrev pub SaysBonded : Answers → ℕ → ℕ → Type 0
SaysBonded c = SameAt c.kept c.bonded

-- A kept node is energisable.
abbrev pub SaysEnergisable : Answers → ℕ → Type 0
SaysEnergisable c = MarkedAt c.kept c.energisable

-- A kept node is earthable.
abbrev pub SaysEarthable : Answers → ℕ → Type 0
SaysEarthable c = MarkedAt c.kept c.earthable

-- A kept node is fed.
abbrev pub SaysFed : Answers → ℕ → Type 0
SaysFed c = MarkedAt c.kept c.fed

-- A kept node is fed or tapped.
abbrev pub SaysLoaded : Answers → ℕ → Type 0
SaysLoaded c = MarkedAt c.kept c.loaded

-- The supply of a kept node: fed, else tapped where it is loaded, else bare.
abbrev pub SaysSupply : Answers → ℕ → Supply → Type 0
SaysSupply c n bare = (¬ SaysFed c n) × (¬ SaysLoaded c n)
SaysSupply c n tapped = (¬ SaysFed c n) × SaysLoaded c n
SaysSupply c n fed = SaysFed c n

-- The word of the program for a supply.
abbrev pub supply_of : word.Supply → Supply
supply_of Bare = bare
supply_of Tapped = tapped
supply_of Fed = fed

-- A rising list of nodes, each below the limit of nodes of a station.
pub record AreNodes (kept : List ℕ) : Type 0 where
  pub rises : Rises kept
  pub small : (k : ℕ) → k < length kept → slice_index kept k < NODES

-- A label is the first place of its class.
pub record AreLabels (count : ℕ) (labels : List ℕ) : Type 0 where
  pub len : length labels ≡ count
  pub below : (k : ℕ) → k < count → slice_index labels k ≤ k
  pub steady : (k : ℕ) → k < count → slice_index labels (slice_index labels k) ≡ slice_index labels k

-- The answers of a contraction: the kept nodes rise, each row has an entry for each of them, and what is
-- fed is loaded.
pub record IsContraction (c : Answers) : Type 0 where
  pub nodes : AreNodes c.kept
  pub coupled : AreLabels (length c.kept) c.coupled
  pub joined : AreLabels (length c.kept) c.joined
  pub bonded : AreLabels (length c.kept) c.bonded
  pub energisable : length c.energisable ≡ length c.kept
  pub earthable : length c.earthable ≡ length c.kept
  pub fed : length c.fed ≡ length c.kept
  pub loaded : length c.loaded ≡ length c.kept
  pub fed_loaded : (k : ℕ) → slice_get c.fed k ≡ Some true → slice_get c.loaded k ≡ Some true

-- The values keep the same nodes, and their gap views give the same answers on them.
pub record SameGap (x y : Answers) : Type 0 where
  pub kept : x.kept ≡ y.kept
  pub coupled : (a b : ℕ) → Keeps x.kept a → Keeps x.kept b → SaysCoupled x a b ↔ SaysCoupled y a b
  pub energisable : (a : ℕ) → Keeps x.kept a → SaysEnergisable x a ↔ SaysEnergisable y a
  pub earthable : (a : ℕ) → Keeps x.kept a → SaysEarthable x a ↔ SaysEarthable y a

-- The values keep the same nodes, and their load views give the same answers on them.
pub record SameLoad (x y : Answers) : Type 0 where
  pub kept : x.kept ≡ y.kept
  pub joined : (a b : ℕ) → Keeps x.kept a → Keeps x.kept b → SaysJoined x a b ↔ SaysJoined y a b
  pub bonded : (a b : ℕ) → Keeps x.kept a → Keeps x.kept b → SaysBonded x a b ↔ SaysBonded y a b
  pub supply : (a : ℕ) → Keeps x.kept a → (s : Supply) → SaysSupply x a s ↔ SaysSupply y a s
