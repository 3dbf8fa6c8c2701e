-- How an order of switching is ruled on, step by step.
use Rattle.std.specs.Prelude.{◌≡◌, ◌≢◌, ◌<◌, ◌≤◌, ℕ, Bool, ⊤, List, length, take, fold, All, slice_get, Option, Some}
use Rattle.std.specs.Prelude.{None}
use Rattle.ilk_base.specs.declared.words.Op.{Op}
use Rattle.station_graph.specs.Diagram.{Diagram}
use Rattle.station_graph.specs.CentralRules.{wanted_end, carried_out, Breaks}
use Rattle.switching_orders.specs.declared.ruling.Step.{Step}
use Rattle.switching_orders.specs.declared.ruling.Step.TheVariants as step
use Rattle.switching_orders.specs.declared.ruling.Ruling.{Ruling}

-- The vector after all these operations.
abbrev pub after_all : List Bool → List Op → List Bool
after_all v ops = fold carried_out v ops

-- The switch has the wanted position already.
abbrev pub IsIdle : List Bool → Op → Type 0
IsIdle v op = slice_get v op.switch.0 ≡ Some (wanted_end op.direction)

-- The ruling on an operation from a vector: idle, else denied with the rule that it breaks, else ok.
abbrev pub Rules : Diagram → List Bool → Op → Step → Type 0
Rules d v op step.Idle = IsIdle v op
Rules d v op (step.Denied rule) = (¬ IsIdle v op) × Breaks d v op (Some rule)
Rules d v op step.Ok = (¬ IsIdle v op) × Breaks d v op None

-- An order is accepted from a vector: each step is ok after those before it.
abbrev pub IsAcceptedFrom : Diagram → List Bool → List Op → Type 0
IsAcceptedFrom d v ops = (k : ℕ) (op : Op) → slice_get ops k ≡ Some op → Rules d (after_all v (take k ops)) op step.Ok

-- What stops an order at its next step, if there is one: a ruling that is not ok.
abbrev pub StopsAt : Diagram → List Bool → Option Op → Option Step → Type 0
StopsAt d v None None = ⊤
StopsAt d v None (Some s) = ⊥
StopsAt d v (Some op) None = ⊥
StopsAt d v (Some op) (Some s) = Rules d v op s × (s ≢ step.Ok)

-- The ruling on an order from a vector: so many steps are ok, and what stops the next, if one does.
pub record IsRuling (d : Diagram) (v : List Bool) (ops : List Op) (r : Ruling) : Type 0 where
  pub within : r.passed ≤ length ops
  pub passed : IsAcceptedFrom d v (take r.passed ops)
  pub stopped : StopsAt d (after_all v (take r.passed ops)) (slice_get ops r.passed) r.stopped

-- The operations move switches of a station with so many switches.
abbrev pub MoveSwitches : ℕ → List Op → Type 0
MoveSwitches count ops = All (λ (op : Op). op.switch.0 < count) ops

-- All of them are operations of the station.
abbrev pub AreOperations : Diagram → List Op → Type 0
AreOperations d ops = MoveSwitches (length d.switches) ops
