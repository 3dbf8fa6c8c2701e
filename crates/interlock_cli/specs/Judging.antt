-- How the parts of reading and judging fail, and what a read leaves.
use Rattle.std.specs.Prelude.{◌≡◌, ◌≤◌, ⊤, ℕ, List, Option, Ok}
use Rattle.std.specs.Io.KnownBytes.{Keeps}
use Rattle.station_graph.specs.Diagram.{Diagram, IsStation}
use Rattle.ssd_read.specs.StandsFor.{Stands}
use Rattle.release_compile.specs.Judging.{IsBuildRefusal}
use Rattle.release_compile.specs.declared.refusal.BuildRefusal.TheVariants.{Many, Wide}
use Rattle.interlock_cli.specs.Formats.{Format, Refuses}
use Rattle.interlock_cli.specs.Form.{Origin, IsContent}
use Rattle.ilk_base.specs.declared.input_fault.InputFault.{InputFault}
use Rattle.ilk_base.specs.declared.input_fault.InputFault.TheVariants as f
use Rattle.interlock_cli.specs.declared.end.End.{End}
use Rattle.interlock_cli.specs.declared.end.End.TheVariants as e

-- A file is not read: for memory, or by a fault of it.
abbrev pub ReadFails : Type 0 → End → Type 0
ReadFails rose e.Memory = ⊤
ReadFails rose e.ReadFault = rose
ReadFails rose _ = ⊥

-- A content is not accepted: for memory, or it is refused.
abbrev pub JudgeFails : Format → List ℕ → End → Type 0
JudgeFails format content e.Memory = ⊤
JudgeFails format content end = Refuses format content end

-- A call ends so where an input gave no value.
abbrev pub EndsInput : InputFault → End → Type 0
EndsInput f.Memory end = end ≡ e.Memory
EndsInput (f.Refused refusal) end = end ≡ e.Input refusal

-- The origin has a drawing of this station, whatever its limits.
abbrev pub Drawn : (List ℕ → Option (List ℕ)) → Origin → Diagram → Type 0
Drawn held origin d = (content : List ℕ) × IsContent held origin content × Stands content (Ok d)

-- A station has no judge: for memory, or since it passes a limit.
abbrev pub BuildFails : Diagram → End → Type 0
BuildFails d e.Memory = ⊤
BuildFails d (e.Many part step) = IsStation d × IsBuildRefusal d (Many part step)
BuildFails d (e.Wide bay) = IsStation d × IsBuildRefusal d (Wide bay)
BuildFails d _ = ⊥

-- What a read leaves: what was told stays, and no count falls.
pub record Onward (held later : List ℕ → Option (List ℕ)) (before between : List ℕ → ℕ) : Type 0 where
  pub keeps : (n : List ℕ) → Keeps (held n) (later n)
  pub grows : (n : List ℕ) → before n ≤ between n
