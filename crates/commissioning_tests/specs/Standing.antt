-- Which switches stand for others.
use Rattle.std.specs.Prelude.{◌≡◌, ◌⊎◌, ℕ, ◌+◌, ◌<◌, ◌≤◌, List, length, slice_get, Some}
use Rattle.station_graph.specs.Diagram.{Diagram}
use Rattle.release_dependence.specs.Exchange.{Exchange}
use Rattle.like_bays.specs.Like.{led_by}

-- An exchange of the station that leaves so many switches, from the first on, carries switch s to switch t.
pub record IsExchangedFor (d : Diagram) (first count s t : ℕ) : Type 0 where
  pub exchange : Exchange d
  pub carries : exchange.switch_to s ≡ t
  pub leaves : (i : ℕ) → first ≤ i → i < first + count → exchange.switch_to i ≡ i

-- Switch t stands for switch s: it is the switch itself, or such an exchange carries it there.
abbrev pub StandsFor : Diagram → ℕ → ℕ → ℕ → ℕ → Type 0
StandsFor d first count s t = (s ≡ t) ⊎ IsExchangedFor d first count s t

-- The switch stands for itself: it is moved.
abbrev pub IsMoved : List ℕ → ℕ → Type 0
IsMoved stands s = slice_get stands s ≡ Some s

-- What the list has for a switch stands for it.
abbrev pub AreStanding : Diagram → ℕ → ℕ → List ℕ → Type 0
AreStanding d first count stands = (s t : ℕ) → slice_get stands s ≡ Some t → StandsFor d first count s t

-- For each switch one that stands for it, and is moved.
pub record AreStands (d : Diagram) (first count : ℕ) (stands : List ℕ) : Type 0 where
  pub len : length stands ≡ length d.switches
  pub standing : AreStanding d first count stands
  pub moved : (s t : ℕ) → slice_get stands s ≡ Some t → IsMoved stands t

-- What stands for a switch once those stand for nothing that are not moved.
abbrev pub IsSettled : List ℕ → ℕ → ℕ → Type 0
IsSettled stands s t = ((slice_get stands s ≡ Some t) × IsMoved stands t) ⊎ (s ≡ t)

-- The table leaves so many switches from the first on.
abbrev pub LeavesBay : List ℕ → ℕ → ℕ → Type 0
LeavesBay table first count = (i : ℕ) → first ≤ i → i < first + count → led_by table i ≡ i
