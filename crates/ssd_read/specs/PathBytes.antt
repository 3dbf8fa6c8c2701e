-- The bytes of all paths of a drawing together, and their limit.
use Rattle.std.specs.Prelude.{ℕ, ◌+◌, List, length, nat_lt, if◌then◌else◌, Option, Some, None}
use Rattle.std.specs.List.{sum_by}
use Rattle.station_graph.specs.declared.fault.What.TheVariants.{Paths}
use Rattle.station_graph.specs.declared.limits.TheConstants.{PATH_BYTES}
use Rattle.ssd_read.specs.declared.refusal.SsdRefusal.{SsdRefusal}
use Rattle.ssd_read.specs.declared.refusal.SsdRefusal.TheVariants.{Limit}
use Rattle.ssd_read.specs.Elements.{Element}

-- The bytes of the paths of these elements together; an element that is counted by no name has none.
abbrev pub path_bytes : List Element → ℕ
path_bytes all = sum_by (λ x. length x.path) all

-- All paths together have more bytes than they may.
unfoldable pub paths_fault : List Element → Option SsdRefusal
paths_fault all = if nat_lt PATH_BYTES (path_bytes all) then Some (Limit Paths (PATH_BYTES + 1)) else None
