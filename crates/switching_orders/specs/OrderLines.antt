-- What the text of an order says: a line `open PATH` or `close PATH` for each step; empty lines are
-- counted and say nothing.
use Rattle.std.specs.Prelude.{◌≡◌, ◌<◌, ◌≤◌, ◌⊎◌, ℕ, List, length, take, slice_get, Some}
use Rattle.std.specs.List.{AllZip}
use Rattle.ilk_base.specs.declared.words.Op.{Op}
use Rattle.ilk_base.specs.declared.words.InputRefusal.{InputRefusal}
use Rattle.station_graph.specs.Diagram.{Diagram}
use Rattle.text_lines.specs.Lines.{filled_lines}
use Rattle.operation_lines.specs.OperationLines.{NamesOperation, HasFault, fault_number}
use Rattle.operation_lines.specs.declared.operation.LineFault.{LineFault}
use Rattle.switching_orders.specs.declared.order.TheConstants.{MOST_STEPS}
use Rattle.ilk_base.specs.declared.limits.TheConstants.{FILE_BYTES}

-- The lines name these operations, each one.
abbrev pub NameSteps : Diagram → List (ℕ × List ℕ) → List Op → Type 0
NameSteps d lines ops = AllZip (λ line op. NamesOperation d line.1 op) lines ops

-- The bytes are an order with these steps.
pub record IsOrder (d : Diagram) (bytes : List ℕ) (ops : List Op) : Type 0 where
  pub few_bytes : length bytes ≤ FILE_BYTES
  pub few_steps : length ops ≤ MOST_STEPS
  pub steps : NameSteps d (filled_lines bytes) ops

-- Why a line that comes after so many steps is no step: it is one too many (9), else it names no
-- operation of the station (10 or 2).
abbrev pub HasStepFault : Diagram → ℕ → List ℕ → ℕ → Type 0
HasStepFault d before line number =
    ((MOST_STEPS ≤ before) × (number ≡ 9))
    ⊎ ((before < MOST_STEPS) × (fault : LineFault) × HasFault d line fault × (number ≡ fault_number fault))

-- The first line with a fault: those before it that are not empty are steps.
pub record IsFirstStepFault (d : Diagram) (bytes : List ℕ) (r : InputRefusal) : Type 0 where
  pub before : List Op
  pub line : List ℕ
  pub steps : NameSteps d (take (length before) (filled_lines bytes)) before
  pub few : length before ≤ MOST_STEPS
  pub stands : slice_get (filled_lines bytes) (length before) ≡ Some (r.line, line)
  pub fault : HasStepFault d (length before) line r.number

-- Why the bytes are no order: they are too many (5, in no line), else by the first line with a fault.
abbrev pub IsOrderFault : Diagram → List ℕ → InputRefusal → Type 0
IsOrderFault d bytes r =
    ((FILE_BYTES < length bytes) × (r ≡ record { number = 5; line = 0 }))
    ⊎ ((length bytes ≤ FILE_BYTES) × IsFirstStepFault d bytes r)
