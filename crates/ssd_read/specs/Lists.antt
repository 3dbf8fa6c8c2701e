-- What steps add, list by list.
use Rattle.std.specs.Prelude.{ℕ, List, Option, Some, None}
use Rattle.station_graph.specs.declared.items.Switch.{Switch}
use Rattle.station_graph.specs.declared.items.Link.{Link}
use Rattle.station_graph.specs.declared.items.Tap.{Tap}
use Rattle.ssd_read.specs.Steps.{Step, a_part, a_switch, a_link, a_tap}

-- The path, switch, link or tap that a step adds to the list of that kind.
abbrev pub part_path : Step → Option (List ℕ)
part_path (a_part path) = Some path
part_path _ = None

-- The switch that a step adds.
abbrev pub switch_in : Step → Option Switch
switch_in (a_switch name x) = Some x
switch_in _ = None

-- The link that a step adds.
abbrev pub link_in : Step → Option Link
link_in (a_link x) = Some x
link_in _ = None

-- The tap that a step adds.
abbrev pub tap_in : Step → Option Tap
tap_in (a_tap x) = Some x
tap_in _ = None
