-- Why a limit is refused, by counts.
use Rattle.std.specs.Prelude.{◌≡◌, ℕ, ◌+◌, List, ◌∷◌, ◌++◌, length, Ok}
use Rattle.station_graph.specs.declared.fault.What.{What}
use Rattle.station_graph.specs.declared.fault.What.TheVariants.{Bytes, Parts, Bays, Nodes, Switches, BaySwitches}
use Rattle.station_graph.specs.declared.fault.What.TheVariants.{Links, Taps, Paths}
use Rattle.station_graph.specs.Diagram.{Diagram, part_count, node_count, bay_count, switches_in}
use Rattle.ssd_read.specs.Steps.{Step, a_switch, built}

-- How many switches a diagram has of the bay of a step that adds a switch.
abbrev pub beside : Diagram → Step → ℕ
beside d (a_switch name x) = switches_in d x.bay.0
beside d _ = 0

-- How many a diagram has of what is counted, where a step adds one more of them.
abbrev pub has : What → Diagram → Step → ℕ
has Bytes d s = 0
has Parts d s = part_count d
has Bays d s = bay_count d
has Nodes d s = node_count d
has Switches d s = length d.switches
has BaySwitches d s = beside d s
has Links d s = length d.links
has Taps d s = length d.taps
has Paths d s = 0

-- The steps pass a limit: those before one of them give a diagram from the one at hand, within all limits, and with that
-- one there are so many of what is counted.
pub record Passes (start : Diagram) (steps : List Step) (what : What) (count : ℕ) : Type 0 where
  pub before : List Step
  pub last : Step
  pub after : List Step
  pub all : steps ≡ before ++ last ∷ after
  pub diagram : Diagram
  pub fits : built start before ≡ Ok diagram
  pub one_more : count ≡ has what diagram last + 1
