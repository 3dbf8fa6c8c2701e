-- For which items, in which position, a value stands.
use Rattle.std.specs.Prelude.{◌≡◌, ◌≢◌, ℕ, ◌<◌, ◌⊎◌, ◌↔◌, Bool, List, [], ◌∷◌, length}
use Rattle.station_graph.specs.Diagram.{Diagram}
use Rattle.station_graph.specs.Connection.{Item, a_switch, a_link, a_tap}
use Rattle.station_graph.specs.Sharing.{TouchedBy}
use Rattle.station_graph.specs.Views.{CoupledBy, JoinedBy, BondedBy, EnergisableBy, EarthableBy, FedBy, TappedBy}
use Rattle.contraction.specs.Answers.{Answers, Keeps, SaysCoupled, SaysJoined, SaysBonded, SaysEnergisable}
use Rattle.contraction.specs.Answers.{SaysEarthable, SaysFed, SaysLoaded}

-- The items of a list.
abbrev pub Among : List Item → Item → Type 0
Among [] item = ⊥
Among (x ∷ xs) item = (item ≡ x) ⊎ Among xs item

-- Every item but this one.
abbrev pub AllBut : Item → Item → Type 0
AllBut item other = other ≢ item

-- The station has this item.
abbrev pub IsItem : Diagram → Item → Type 0
IsItem d (a_switch i) = i < length d.switches
IsItem d (a_link i) = i < length d.links
IsItem d (a_tap i) = i < length d.taps

-- The value answers the gap view of these items in v.
pub record GapStandsFor (These : Item → Type 0) (d : Diagram) (v : List Bool) (c : Answers) : Type 0 where
  pub coupled : (a b : ℕ) → Keeps c.kept a → Keeps c.kept b → SaysCoupled c a b ↔ CoupledBy These d v a b
  pub energisable : (a : ℕ) → Keeps c.kept a → SaysEnergisable c a ↔ EnergisableBy These d v a
  pub earthable : (a : ℕ) → Keeps c.kept a → SaysEarthable c a ↔ EarthableBy These d v a

-- The value answers the load view of these items in v. A node is loaded where it is fed or tapped, so
-- the two marks tell its supply.
pub record LoadStandsFor (These : Item → Type 0) (d : Diagram) (v : List Bool) (c : Answers) : Type 0 where
  pub joined : (a b : ℕ) → Keeps c.kept a → Keeps c.kept b → SaysJoined c a b ↔ JoinedBy These d v a b
  pub bonded : (a b : ℕ) → Keeps c.kept a → Keeps c.kept b → SaysBonded c a b ↔ BondedBy These d v a b
  pub fed : (a : ℕ) → Keeps c.kept a → SaysFed c a ↔ FedBy These d v a
  pub loaded : (a : ℕ) → Keeps c.kept a → SaysLoaded c a ↔ (FedBy These d v a ⊎ TappedBy These d v a)

-- The value stands for these items in v: its answers are those of their contraction.
pub record StandsFor (These : Item → Type 0) (d : Diagram) (v : List Bool) (c : Answers) : Type 0 where
  pub gap : GapStandsFor These d v c
  pub load : LoadStandsFor These d v c

-- Each value keeps every node that its own items touch and that the other's items touch or the other
-- value keeps.
pub record MeetsKept (These Those : Item → Type 0) (d : Diagram) (first second : List ℕ) : Type 0 where
  pub in_first : (n : ℕ) → TouchedBy These d n → TouchedBy Those d n ⊎ Keeps second n → Keeps first n
  pub in_second : (n : ℕ) → TouchedBy Those d n → TouchedBy These d n ⊎ Keeps first n → Keeps second n
