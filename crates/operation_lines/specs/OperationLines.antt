-- Lines that name an operation: `open PATH` and `close PATH`.
use Rattle.std.specs.Prelude.{◌≡◌, ℕ, ◌++◌, List, slice_get, Some, Contains, codes}
use Rattle.text_lines.specs.Lines.{Continues}
use Rattle.ilk_base.specs.declared.words.Direction.{Direction}
use Rattle.ilk_base.specs.declared.words.Op.{Op}
use Rattle.station_graph.specs.Diagram.{Diagram}
use Rattle.central_rules.specs.Names.{direction_name}
use Rattle.operation_lines.specs.declared.operation.LineFault.{LineFault}
use Rattle.operation_lines.specs.declared.operation.LineFault.TheVariants.{Form, Unknown}

-- The line is `open PATH` or `close PATH`, and the path is not empty.
abbrev pub IsOperationLine : Direction → List ℕ → List ℕ → Type 0
IsOperationLine direction path line = Continues (direction_name direction ++ codes " ") path line

-- The line names this operation of the station.
pub record NamesOperation (d : Diagram) (line : List ℕ) (op : Op) : Type 0 where
  pub path : List ℕ
  pub written : IsOperationLine op.direction path line
  pub named : slice_get d.switch_paths op.switch.0 ≡ Some path

-- Why the line names no operation of the station: it is not of the form, or no switch has its path.
abbrev pub HasFault : Diagram → List ℕ → LineFault → Type 0
HasFault d line Form = (direction : Direction) (path : List ℕ) → ¬ IsOperationLine direction path line
HasFault d line Unknown = (direction : Direction) × (path : List ℕ) × IsOperationLine direction path line
    × (¬ Contains d.switch_paths path)

-- The number of the fault among the refusals of inputs.
abbrev pub fault_number : LineFault → ℕ
fault_number Form = 10
fault_number Unknown = 2
