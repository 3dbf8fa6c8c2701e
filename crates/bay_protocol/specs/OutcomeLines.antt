-- The lines of a report that show an outcome.
use Rattle.std.specs.Prelude.{◌≡◌, ◌<◌, ◌++◌, ◌==◌, ⊤, ℕ, Bool, false, List, [], length, slice_index_or, codes}
use Rattle.std.specs.Prelude.{if◌then◌else◌}
use Rattle.std.specs.Fmt.{decimal}
use Rattle.ilk_base.specs.declared.words.Op.{Op}
use Rattle.station_graph.specs.Diagram.{Diagram, switch_path}
use Rattle.station_graph.specs.Alike.{IsVector}
use Rattle.station_graph.specs.CentralRules.{IsOperation}
use Rattle.central_rules.specs.Names.{rule_name, direction_name, texts_below}
use Rattle.bay_protocol.specs.declared.values.Outcome.{Outcome}
use Rattle.bay_protocol.specs.declared.values.Outcome.TheVariants.{UnderWay, HeldBy, There, Spent, Collecting, Granted}
use Rattle.bay_protocol.specs.declared.values.Outcome.TheVariants.{Denied, BusyBy, Finished, Withdrawn, Stopped, Quiet}

-- A line: the prefix, the text, and the end of the line.
abbrev pub line : List ℕ → List ℕ → List ℕ
line prefix text = prefix ++ text ++ codes "\n"

-- `open PATH` or `close PATH`.
abbrev pub operation : Diagram → Op → List ℕ
operation d op = direction_name op.direction ++ codes " " ++ switch_path d op.switch.0

-- The line `with PATH` of a switch other than the moved one that is closed in the reading.
abbrev pub with_line : List ℕ → Diagram → List Bool → ℕ → ℕ → List ℕ
with_line prefix d v moved i =
    if i == moved then []
    else if slice_index_or v i false then line prefix (codes "with " ++ switch_path d i)
    else []

-- The lines of an outcome, each begun with the prefix.
abbrev pub outcome_lines : List ℕ → Diagram → Outcome → List ℕ
outcome_lines prefix d (Collecting r) = line prefix (codes "collecting " ++ decimal r)
outcome_lines prefix d (Granted r op) = line prefix (codes "granted " ++ decimal r ++ codes " " ++ operation d op)
outcome_lines prefix d (Denied r op rule v) =
    line prefix (codes "denied " ++ decimal r ++ codes " " ++ rule_name rule ++ codes " " ++ operation d op)
    ++ texts_below (with_line prefix d v op.switch.0) (length d.switches)
outcome_lines prefix d (BusyBy r bay holder q) =
    line prefix (codes "busy " ++ decimal r ++ codes " from " ++ decimal bay.0 ++ codes " holder " ++ decimal holder.0
    ++ codes " round " ++ decimal q)
outcome_lines prefix d (HeldBy bay q) = line prefix (codes "held " ++ decimal bay.0 ++ codes " round " ++ decimal q)
outcome_lines prefix d (UnderWay r) = line prefix (codes "underway " ++ decimal r)
outcome_lines prefix d There = line prefix (codes "there")
outcome_lines prefix d Spent = line prefix (codes "spent")
outcome_lines prefix d (Finished r) = line prefix (codes "finished " ++ decimal r)
outcome_lines prefix d (Withdrawn r) = line prefix (codes "withdrawn " ++ decimal r)
outcome_lines prefix d (Stopped r) = line prefix (codes "stopped " ++ decimal r)
outcome_lines prefix d Quiet = []

-- What a verdict names is of the station.
abbrev pub OutcomeFits : Diagram → Outcome → Type 0
OutcomeFits d (Collecting r) = ⊤
OutcomeFits d (Granted r op) = IsOperation d op
OutcomeFits d (Denied r op rule v) = IsOperation d op × IsVector d v
OutcomeFits d (BusyBy r bay holder q) = ⊤
OutcomeFits d (HeldBy bay q) = ⊤
OutcomeFits d (UnderWay r) = ⊤
OutcomeFits d There = ⊤
OutcomeFits d Spent = ⊤
OutcomeFits d (Finished r) = ⊤
OutcomeFits d (Withdrawn r) = ⊤
OutcomeFits d (Stopped r) = ⊤
OutcomeFits d Quiet = ⊤
