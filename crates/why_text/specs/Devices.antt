-- Which device joins two neighbouring nodes of a way.
use Rattle.std.specs.Prelude.{◌<◌, ℕ, suc, Bool, false, List, length, slice_index}
use Rattle.station_graph.specs.Diagram.{Diagram}
use Rattle.station_graph.specs.Connection.{ClosedBetween, LinkBetween}
use Rattle.why_text.specs.declared.device.Device.{Device}
use Rattle.why_text.specs.declared.device.Device.TheVariants.{Closed, Link, Open}

-- No breaker and no disconnector that is closed in v has the ends a and b.
abbrev pub NoneClosed : Diagram → List Bool → ℕ → ℕ → Type 0
NoneClosed d v a b = (i : ℕ) → ¬ ClosedBetween d v i a b

-- No link has the ends a and b.
abbrev pub NoLink : Diagram → ℕ → ℕ → Type 0
NoLink d a b = (i : ℕ) → ¬ LinkBetween d false i a b

-- Switch i is the first in document order that is closed in v and has the ends a and b.
pub record IsFirstClosed (d : Diagram) (v : List Bool) (a b i : ℕ) : Type 0 where
  pub closed : ClosedBetween d v i a b
  pub first : (j : ℕ) → j < i → ¬ ClosedBetween d v j a b

-- Link i is the first in document order that has the ends a and b.
pub record IsFirstLink (d : Diagram) (a b i : ℕ) : Type 0 where
  pub between : LinkBetween d false i a b
  pub first : (j : ℕ) → j < i → ¬ LinkBetween d false j a b

-- What joins a and b where the positions are v, and those of `counted` count: the first switch that is closed; where
-- there is none, the first link; where there is none either, the first breaker that counts as closed.
abbrev pub IsDevice : Diagram → List Bool → List Bool → ℕ → ℕ → Device → Type 0
IsDevice d v counted a b (Closed id) = IsFirstClosed d v a b id.0
IsDevice d v counted a b (Link i) = NoneClosed d v a b × IsFirstLink d a b i
IsDevice d v counted a b (Open id) = NoneClosed d v a b × NoLink d a b × IsFirstClosed d counted a b id.0

-- The device is one of the station.
abbrev pub DeviceFits : Diagram → Device → Type 0
DeviceFits d (Closed id) = id.0 < length d.switches
DeviceFits d (Link i) = i < length d.links
DeviceFits d (Open id) = id.0 < length d.switches

-- Each two neighbours in the list are related.
abbrev pub IsWalk : (ℕ → ℕ → Type 0) → List ℕ → Type 0
IsWalk R nodes = (i : ℕ) → suc i < length nodes → R (slice_index nodes i) (slice_index nodes (suc i))
