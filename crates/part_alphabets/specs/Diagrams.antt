-- Decision diagrams over the switches of a part. Steps are numbered from 0; a number past the steps is
-- that of an index.
use Rattle.std.specs.Prelude.{◌≡◌, ℕ, ◌+◌, ◌<◌, ◌≤◌, Bool, true, false, List, length, slice_get, Some}
use Rattle.station_graph.specs.Connection.{Linked}
use Rattle.part_alphabets.specs.declared.fork.Fork.{Fork}

-- Where a step leads by the position of its switch.
abbrev pub branch : Fork → Bool → ℕ
branch f true = f.on
branch f false = f.off

-- In v the step a leads to b.
pub record ForkGoes (forks : List Fork) (v : List Bool) (a b : ℕ) : Type 0 where
  pub fork : Fork
  pub closed : Bool
  pub listed : slice_get forks a ≡ Some fork
  pub position : slice_get v fork.switch.0 ≡ Some closed
  pub to : branch fork closed ≡ b

-- In v the steps lead from the first of them to this index.
abbrev pub ForksLeadTo : List Fork → List Bool → ℕ → Type 0
ForksLeadTo forks v index = Linked (ForkGoes forks v) 0 (length forks + index)

-- Each step tests one of so many switches, and leads to later steps or to one of so many indices.
pub record ForkFits (switches steps size at : ℕ) (f : Fork) : Type 0 where
  pub switch : f.switch.0 < switches
  pub off_later : at < f.off
  pub off_within : f.off < steps + size
  pub on_later : at < f.on
  pub on_within : f.on < steps + size

-- Each fork has its switch and its targets in range.
abbrev pub ForksFit : ℕ → ℕ → List Fork → Type 0
ForksFit switches size forks = (a : ℕ) (f : Fork) → slice_get forks a ≡ Some f → ForkFits switches
    (length forks) size a f

-- The steps test so many switches from the first on, one after another: each leads to steps that test
-- the next switch, and those of the last one lead to indices.
pub record AreStaged (first count : ℕ) (forks : List Fork) : Type 0 where
  pub start : (f : Fork) → slice_get forks 0 ≡ Some f → f.switch.0 ≡ first
  pub none : length forks ≡ 0 → count ≡ 0
  pub inside : (a : ℕ) (f : Fork) → slice_get forks a ≡ Some f → (first ≤ f.switch.0) × (f.switch.0 < first + count)
  pub next : (a : ℕ) (f g : Fork) (closed : Bool) → slice_get forks a ≡ Some f → slice_get forks
      (branch f closed) ≡ Some g → g.switch.0 ≡ f.switch.0 + 1
  pub last : (a : ℕ) (f : Fork) (closed : Bool) → slice_get forks a ≡ Some f → length forks ≤ branch f closed
      → f.switch.0 + 1 ≡ first + count
