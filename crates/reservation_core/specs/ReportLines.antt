-- The text of a report: the bays, what is shown at each line of the log, and the number of lines at the end.
use Rattle.std.specs.Prelude.{◌++◌, ◌+◌, ℕ, Bool, true, false, List, [], ◌∷◌, nat_lt, slice_index_or, codes, decimal}
use Rattle.std.specs.Prelude.{if◌then◌else◌}
use Rattle.std.specs.List.{flat_map, enumerate_from}
use Rattle.station_graph.specs.Diagram.{Diagram, part_count, switches_in}
use Rattle.central_rules.specs.Names.{texts_below}
use Rattle.bay_protocol.specs.OutcomeLines.{line, outcome_lines}
use Rattle.reservation_core.specs.Lines.{MessageKind, Message, Shown}

-- The line `bay B PATH` of a part that is a bay.
abbrev pub bay_line : Diagram → ℕ → List ℕ
bay_line d b =
    if nat_lt 0 (switches_in d b) then codes "bay " ++ decimal b ++ codes " " ++ slice_index_or d.part_paths b []
    ++ codes "\n"
    else []

-- The lines of all bays, in order.
abbrev pub bay_lines : Diagram → List ℕ
bay_lines d = texts_below (bay_line d) (part_count d)

-- What a kind of message is called.
abbrev pub message_name : MessageKind → List ℕ
message_name MessageKind.reserve = codes "reserve"
message_name MessageKind.answer = codes "answer"
message_name MessageKind.busy = codes "busy"
message_name MessageKind.query = codes "query"
message_name MessageKind.over = codes "over"

-- What the lines of bay b at line i of the log begin with.
abbrev pub line_prefix : ℕ → ℕ → List ℕ
line_prefix i b = decimal i ++ codes " " ++ decimal b ++ codes " "

-- The line `I B send N KIND TO R` of a message.
abbrev pub message_line : ℕ → Message → List ℕ
message_line i x =
    line (line_prefix i x.from) (codes "send " ++ decimal x.number ++ codes " " ++ message_name x.kind ++ codes " "
    ++ decimal x.to ++ codes " " ++ decimal x.round)

-- The lines of what is shown at line i.
abbrev pub shown_lines : Diagram → ℕ → Shown → List ℕ
shown_lines d i s = outcome_lines (line_prefix i s.bay) d s.outcome ++ flat_map (message_line i) s.messages

-- The last line, for so many records.
abbrev pub done_line : ℕ → List ℕ
done_line count = codes "done " ++ decimal count ++ codes "\n"

-- What is shown at each line, from 1.
abbrev pub all_lines : Diagram → List Shown → List ℕ
all_lines d out = flat_map (λ p. shown_lines d p.0 p.1) (enumerate_from 1 out)

-- The bays, and what is shown at each line.
abbrev pub report_lines : Diagram → List Shown → List ℕ
report_lines d out = bay_lines d ++ all_lines d out
