-- The positions of the station: a record `PATH,WORD` for each switch.
use Rattle.std.specs.Prelude.{◌++◌, ℕ, List, map, codes}
use Rattle.std.specs.List.{flat_map}
use Rattle.station_make.specs.declared.equipment.Switch.{Switch}
use Rattle.station_make.specs.Layout.{switches}
use Rattle.station_make.specs.Names.{switch_path, position_word}

-- The records, each on a line of its own.
abbrev pub lines_text : List (List ℕ) → List ℕ
lines_text records = flat_map (λ r. r ++ codes "\n") records

-- The record of a switch.
abbrev pub position_record : Switch → List ℕ
position_record s = switch_path s ++ codes "," ++ position_word s.is_on

-- The positions of the station with so many feeders.
abbrev pub positions_text : ℕ → List ℕ
positions_text feeders = lines_text (map position_record (switches feeders))
