-- The log of one whole operation: the first feeder's disconnector to the second busbar is to be closed, every
-- other bay is asked and answers, the drive runs, and the other bays are told that it has ended.
use Rattle.std.specs.Prelude.{◌++◌, ◌+◌, ◌*◌, ℕ, List, [], ◌∷◌, map, codes, decimal}
use Rattle.std.specs.List.{range_with_len}
use Rattle.station_make.specs.declared.equipment.Bay.TheVariants.{Feeder}
use Rattle.station_make.specs.declared.equipment.Designation.TheVariants.{Qb2}
use Rattle.station_make.specs.declared.equipment.Switch.{Switch}
use Rattle.station_make.specs.Layout.{switches}
use Rattle.station_make.specs.Names.{path_in}
use Rattle.station_make.specs.PositionsText.{position_record, lines_text}

-- Where the switch stands at the start.
abbrev pub at_record : Switch → List ℕ
at_record s = codes "at," ++ position_record s

-- Its bay reads the same.
abbrev pub sense_record : Switch → List ℕ
sense_record s = codes "sense," ++ position_record s

-- The message of this number is delivered.
abbrev pub deliver_record : ℕ → List ℕ
deliver_record number = codes "deliver," ++ decimal number

-- The path of the switch that is moved.
abbrev pub moved_path : List ℕ
moved_path = path_in (Feeder 1) Qb2

-- A record of that switch, with these texts before its path and behind it.
unfoldable pub moved_record : List ℕ → List ℕ → List ℕ
moved_record front back = front ++ moved_path ++ back

-- It is to be closed.
abbrev pub command_records : List (List ℕ)
command_records = moved_record (codes "command,") (codes ",close") ∷ []

-- Its drive runs from end to end, and its bay reads it.
abbrev pub drive_records : List (List ℕ)
drive_records =
    moved_record (codes "begin,") [] ∷ moved_record (codes "end,") [] ∷ moved_record (codes "sense,") (codes ",on") ∷ []

-- The records of the log, for these switches and so many feeders. There are as many other bays as feeders:
-- each is asked, and answers, and in the end each is told.
abbrev pub events_of : ℕ → List Switch → List (List ℕ)
events_of feeders switches =
    map at_record switches
    ++ map sense_record switches
    ++ command_records
    ++ map deliver_record (range_with_len 1 (2 * feeders))
    ++ drive_records
    ++ map deliver_record (range_with_len (2 * feeders + 1) feeders)

-- The records of the log for the station with so many feeders.
abbrev pub events : ℕ → List (List ℕ)
events feeders = events_of feeders (switches feeders)

-- The log for the station with so many feeders.
abbrev pub events_text : ℕ → List ℕ
events_text feeders = lines_text (events feeders)
