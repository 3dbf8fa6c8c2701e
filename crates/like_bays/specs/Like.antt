-- Bays that an exchange of the station carries into one another.
use Rattle.std.specs.Prelude.{◌≡◌, ◌⊎◌, ℕ, ◌+◌, ◌<◌, ◌≤◌, List, slice_index_or}
use Rattle.station_graph.specs.Diagram.{Diagram, AreSwitchesOf}
use Rattle.release_dependence.specs.Exchange.{Exchange}

-- Where a table leads from a number; past its end every number stays.
abbrev pub led_by : List ℕ → ℕ → ℕ
led_by table n = slice_index_or table n n

-- The number is none of so many from this one on.
abbrev pub IsOutside : ℕ → ℕ → ℕ → Type 0
IsOutside first count s = (s < first) ⊎ (first + count ≤ s)

-- An exchange of the station carries each switch of the one bay to the switch at its place in the other, and leaves the
-- switches of all other bays where they are.
pub record AreLike (d : Diagram) (one other : ℕ) : Type 0 where
  pub first : ℕ
  pub second : ℕ
  pub count : ℕ
  pub of_one : AreSwitchesOf d one first count
  pub of_other : AreSwitchesOf d other second count
  pub exchange : Exchange d
  pub carried : (i : ℕ) → i < count → exchange.switch_to (first + i) ≡ second + i
  pub left : (s : ℕ) → IsOutside first count s → IsOutside second count s → exchange.switch_to s ≡ s

-- The table says where some exchange of the station leads from each switch.
pub record IsExchangeBy (d : Diagram) (table : List ℕ) : Type 0 where
  pub exchange : Exchange d
  pub leads : (s : ℕ) → exchange.switch_to s ≡ led_by table s
