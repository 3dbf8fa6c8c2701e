-- The statuses and the lines on `err`.
use Rattle.std.specs.Prelude.{◌++◌, ℕ, List, [], Option, Some, None, option_map, codes}
use Rattle.std.specs.Fmt.{decimal}
use Rattle.station_graph.specs.Limits.{limit_number}
use Rattle.ssd_read.specs.Shown.{number, place, limit, count}
use Rattle.ssd_read.specs.declared.refusal.SsdRefusal.{SsdRefusal}
use Rattle.interlock_cli.specs.declared.end.Outcome.{Outcome}
use Rattle.interlock_cli.specs.declared.end.Outcome.TheVariants as o
use Rattle.interlock_cli.specs.declared.end.End.{End}
use Rattle.interlock_cli.specs.declared.end.End.TheVariants as e
use Rattle.interlock_cli.specs.declared.status.Status.{Status}
use Rattle.interlock_cli.specs.declared.status.Status.TheVariants as s

-- The status of a call whose text is written.
abbrev pub outcome_status : Outcome → Status
outcome_status o.Done = s.Done
outcome_status o.Differs = s.Differs
outcome_status (o.Premise number line) = s.Premise
outcome_status (o.TooWide bay) = s.StationRefused

-- The status of an end.
abbrev pub status_of : End → Status
status_of (e.Written outcome) = outcome_status outcome
status_of e.Usage = s.Usage
status_of e.ReadFault = s.ReadFault
status_of e.WriteFault = s.WriteFault
status_of (e.Station refusal) = s.StationRefused
status_of (e.Many part step) = s.StationRefused
status_of (e.Wide bay) = s.StationRefused
status_of (e.Input refusal) = s.InputRefused
status_of e.Long = s.Long
status_of e.Memory = s.Memory

-- The line of a call that wants memory.
abbrev pub memory_line : List ℕ
memory_line = codes "interlock: out of memory\n"

-- A number behind its label, where there is one.
abbrev pub labelled : List ℕ → Option ℕ → List ℕ
labelled label None = []
labelled label (Some n) = label ++ decimal n

-- The line of a fault of the drawing: its number, and those of its place, limit and count that it has.
abbrev pub fault_line : ℕ → Option ℕ → Option ℕ → Option ℕ → List ℕ
fault_line n at what many =
    codes "interlock: station refused " ++ decimal n ++ labelled (codes " at ") at ++ labelled (codes " limit ") what
    ++ labelled (codes " count ") many ++ codes "\n"

-- The line of a refusal of this number; one that has none is want of memory.
abbrev pub numbered_line : Option ℕ → SsdRefusal → List ℕ
numbered_line None refusal = memory_line
numbered_line (Some n) refusal = fault_line n (place refusal) (option_map limit_number (limit refusal)) (count refusal)

-- The line of a drawing that is refused.
abbrev pub station_line : SsdRefusal → List ℕ
station_line refusal = numbered_line (number refusal) refusal

-- The line of a call whose text is written: the premise that is broken, and where; or the bay of which a walk is too wide.
abbrev pub outcome_line : Outcome → List ℕ
outcome_line o.Done = []
outcome_line o.Differs = []
outcome_line (o.Premise number line) =
    codes "interlock: premise " ++ decimal number ++ codes " line " ++ decimal line ++ codes "\n"
outcome_line (o.TooWide bay) = codes "interlock: station refused 18 bay " ++ decimal bay.0 ++ codes "\n"

-- The line on `err`.
abbrev pub line_of : End → List ℕ
line_of (e.Written outcome) = outcome_line outcome
line_of e.Usage = codes "interlock: usage\n"
line_of e.ReadFault = codes "interlock: read fault\n"
line_of e.WriteFault = codes "interlock: write fault\n"
line_of (e.Station refusal) = station_line refusal
line_of (e.Many part step) =
    codes "interlock: station refused 16 part " ++ decimal part.0 ++ codes " step " ++ decimal step ++ codes "\n"
line_of (e.Wide bay) = codes "interlock: station refused 17 bay " ++ decimal bay.0 ++ codes "\n"
line_of (e.Input refusal) =
    codes "interlock: input refused " ++ decimal refusal.number ++ codes " line " ++ decimal refusal.line ++ codes "\n"
line_of e.Long = codes "interlock: input too long\n"
line_of e.Memory = memory_line
