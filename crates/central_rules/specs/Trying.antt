-- The trial of every vector, switch by switch.
use Rattle.std.specs.Prelude.{◌≡◌, ◌<◌, ℕ, Bool, List, slice_get, Some, None}
use Rattle.ilk_base.specs.declared.words.Dbpos.{Dbpos}
use Rattle.ilk_base.specs.declared.words.Op.{Op}
use Rattle.station_graph.specs.Diagram.{Diagram}
use Rattle.station_graph.specs.CentralRules.{Breaks}
use Rattle.central_rules.specs.Readings.{IsReadingFrom}

-- Two vectors are the same below a switch.
abbrev pub SameBelow : ℕ → List Bool → List Bool → Type 0
SameBelow n v w = (i : ℕ) → i < n → slice_get w i ≡ slice_get v i

-- No reading breaks a rule that is as old below a switch.
abbrev pub NoneBreaks : Diagram → ℕ → List Dbpos → List Bool → Op → Type 0
NoneBreaks d at words old op = (v : List Bool) → IsReadingFrom at words v → SameBelow at old v → Breaks d v op None

-- The same of those with this position there.
abbrev pub NoneBreaksWith : Bool → Diagram → ℕ → List Dbpos → List Bool → Op → Type 0
NoneBreaksWith closed d at words old op = (v : List Bool) → IsReadingFrom at words v → SameBelow at old v →
    slice_get v at ≡ Some closed → Breaks d v op None
