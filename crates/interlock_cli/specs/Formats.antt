-- The formats of what a command is given: which content is accepted, and as what, and how the call ends
-- where one is not. A new format adds a constructor and its equations.
use Rattle.std.specs.Prelude.{◌≡◌, ◌⊎◌, ⊤, ℕ, Bool, List, slice_get, Some, Ok, Err, Contains}
use Rattle.ilk_base.specs.declared.words.Dbpos.{Dbpos}
use Rattle.ilk_base.specs.declared.words.InputRefusal.{InputRefusal}
use Rattle.ilk_base.specs.declared.words.Op.{Op}
use Rattle.station_graph.specs.Diagram.{Diagram, Differ, IsStation}
use Rattle.ssd_read.specs.StandsFor.{Stands}
use Rattle.ssd_read.specs.Elements.{Element}
use Rattle.ssd_read.specs.Whole.{IsDrawing}
use Rattle.central_rules.specs.Meaning.{IsBay}
use Rattle.release_compile.specs.Judging.{KeepsLimits, IsBuildRefusal}
use Rattle.release_compile.specs.declared.refusal.BuildRefusal.{BuildRefusal}
use Rattle.release_compile.specs.declared.refusal.BuildRefusal.TheVariants.{Many, Wide}
use Rattle.double_points.specs.Positions.{IsAccepted, IsRefusedWith}
use Rattle.switching_orders.specs.Certain.{SayPositions, IsUnsure}
use Rattle.switching_orders.specs.OrderLines.{IsOrder, IsOrderFault}
use Rattle.equation_audit.specs.Equations.{Equation}
use Rattle.equation_audit.specs.BlockLines.{AreBlocks, IsBlocksFault}
use Rattle.reservation_core.specs.declared.values.LogEvent.{LogEvent}
use Rattle.log_replay.specs.Log.{IsLog, IsLogFault}
use Rattle.trip_replay.specs.TripLogs.{IsTripLog, IsTripLogFault}
use Rattle.trip_replay.specs.declared.event.TripLogEvent.{TripLogEvent}
use Rattle.interlock_cli.specs.declared.end.End.{End}
use Rattle.interlock_cli.specs.declared.end.End.TheVariants as e

-- What a content may have to be.
pub data Format : Type 0 where
  -- a drawing
  Drawing : Format
  -- a drawing, taken as its elements, whatever the graphs of its station
  Elements : Format
  -- the positions of the station's switches
  Positions : Diagram → Format
  -- positions that leave no switch's position open
  CertainPositions : Diagram → Format
  -- an order of switching of the station
  OrderOf : Diagram → Format
  -- the log of an operation of the station
  LogOf : Diagram → Format
  -- the log of an operation of the station, in which breakers may trip
  TripLogOf : Diagram → Format
  -- equations of the station, one block for each
  BlocksOf : Diagram → Format
  -- the path of a switch of the station
  SwitchOf : Diagram → Format
  -- the path of a bay of the station
  BayOf : Diagram → Format

-- What a content is accepted as: a station, the elements of a drawing, a word or a position for each of its
-- switches, the steps of an order, equations, the path itself, or the number of the bay.
abbrev pub Value : Format → Type 0
Value Drawing = Diagram
Value Elements = List Element
Value (Positions d) = List Dbpos
Value (CertainPositions d) = List Bool
Value (OrderOf d) = List Op
Value (LogOf d) = List LogEvent
Value (TripLogOf d) = List TripLogEvent
Value (BlocksOf d) = List Equation
Value (SwitchOf d) = List ℕ
Value (BayOf d) = ℕ

-- A content of the format stands in a file, or might; switches and bays are named by words alone.
abbrev pub IsOfFile : Format → Type 0
IsOfFile (SwitchOf d) = ⊥
IsOfFile (BayOf d) = ⊥
IsOfFile _ = ⊤

-- The path is that of this part, which is a bay.
abbrev pub NamesBay : Diagram → List ℕ → ℕ → Type 0
NamesBay d path b = (slice_get d.part_paths b ≡ Some path) × IsBay d b

-- The content is accepted, as this; a drawing is accepted whose station keeps the limits of its graphs, and
-- blocks name the switches of a station, of which no two have one path.
abbrev pub AcceptsAs : (f : Format) → List ℕ → Value f → Type 0
AcceptsAs Drawing content d = Stands content (Ok d) × KeepsLimits d
AcceptsAs Elements content all = IsDrawing content all
AcceptsAs (Positions d) content words = IsAccepted d.switch_paths content words
AcceptsAs (CertainPositions d) content v =
    (words : List Dbpos) × IsAccepted d.switch_paths content words × SayPositions v words
AcceptsAs (OrderOf d) content steps = IsOrder d content steps
AcceptsAs (LogOf d) content events = IsStation d × IsLog d content events
AcceptsAs (TripLogOf d) content events = IsStation d × IsTripLog d content events
AcceptsAs (BlocksOf d) content es = Differ d.switch_paths × AreBlocks d content es
AcceptsAs (SwitchOf d) content path = Contains d.switch_paths content × (path ≡ content)
AcceptsAs (BayOf d) content b = NamesBay d content b

-- The positions are accepted, and a word of them leaves a position open: 14, in no line.
abbrev pub IsUnsureRefusal : Diagram → List ℕ → InputRefusal → Type 0
IsUnsureRefusal d content refusal =
    (words : List Dbpos) × IsAccepted d.switch_paths content words × IsUnsure words
    × (refusal ≡ record { number = 14; line = 0 })

-- The drawing is that of a station, which is refused since it passes a limit of its graphs.
pub record PassesLimit (content : List ℕ) (refusal : BuildRefusal) : Type 0 where
  pub diagram : Diagram
  pub stands : Stands content (Ok diagram)
  pub station : IsStation diagram
  pub past : IsBuildRefusal diagram refusal

-- The content is refused, and the call ends so; a switch or bay that is not of the station is 11, in no line.
abbrev pub Refuses : Format → List ℕ → End → Type 0
Refuses Drawing content (e.Station refusal) = Stands content (Err refusal)
Refuses Drawing content (e.Many part step) = PassesLimit content (Many part step)
Refuses Drawing content (e.Wide bay) = PassesLimit content (Wide bay)
Refuses Elements content (e.Station refusal) = Stands content (Err refusal)
Refuses (Positions d) content (e.Input refusal) = IsRefusedWith d.switch_paths content refusal
Refuses (CertainPositions d) content (e.Input refusal) =
    IsRefusedWith d.switch_paths content refusal ⊎ IsUnsureRefusal d content refusal
Refuses (OrderOf d) content (e.Input refusal) = IsOrderFault d content refusal
Refuses (LogOf d) content (e.Input refusal) = IsLogFault d content refusal
Refuses (TripLogOf d) content (e.Input refusal) = IsTripLogFault d content refusal
Refuses (BlocksOf d) content (e.Input refusal) = IsBlocksFault d content refusal
Refuses (SwitchOf d) content (e.Input refusal) =
    (¬ Contains d.switch_paths content) × (refusal.number ≡ 11) × (refusal.line ≡ 0)
Refuses (BayOf d) content (e.Input refusal) =
    ((b : ℕ) → ¬ NamesBay d content b) × (refusal.number ≡ 11) × (refusal.line ≡ 0)
Refuses _ content _ = ⊥
