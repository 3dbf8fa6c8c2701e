-- A drawing whose station has a judge, and one whose station has none.
use Rattle.std.proofs.Common.{◌≡◌, ◌+◌, ℕ, List, take, Option, Some, None, Result, Ok, Err, refl}
use Rattle.std.specs.Prelude.{IfSome, IfOk}
use Rattle.ilk_base.specs.declared.limits.TheConstants.{FILE_BYTES}
use Rattle.station_graph.specs.Diagram.{Diagram}
use Rattle.ssd_read.specs.declared.refusal.SsdRefusal.{SsdRefusal}
use Rattle.ssd_read.specs.declared.refusal.SsdRefusal.TheVariants.{Memory}
use Rattle.ssd_read.specs.Shown.{number}
use Rattle.ssd_read.specs.StandsFor.{Stands, TellsStation}
use Rattle.release_compile.specs.Judging.{KeepsLimits}
use Rattle.interlock_cli.specs.Formats.{Drawing}
use Rattle.interlock_cli.specs.Form.{Origin, File, Given, Fails}
use Rattle.interlock_cli.specs.Judging.{Drawn, BuildFails}
use Rattle.interlock_cli.specs.declared.end.End.{End}
use Rattle.interlock_cli.specs.declared.end.End.TheVariants as e
use Rattle.interlock_cli.proofs.Cuts.{cut_stands}

-- a refusal with a number is the fault of the drawing
pub refused : (bytes : List ℕ) (fault : SsdRefusal) (n : ℕ) → TellsStation bytes (Err fault) → number fault ≡ Some n →
    Stands bytes (Err fault)
refused bytes Memory n tells is = absurd (cc is)
refused bytes fault n tells is = tells

module _ (held : List ℕ → Option (List ℕ)) where
  -- the drawing whose first bytes were read
  pub drawn : (name v : List ℕ) (r : Result Diagram End) → IfSome (held name) (λ b. v ≡ take (FILE_BYTES + 1) b) →
      IfOk r (λ d. Stands v (Ok d)) → IfOk r (Drawn held (File name))
  drawn name v (Ok d) first stands =
      elim (held name) as (λ o. IfSome o (λ b. v ≡ take (FILE_BYTES + 1) b) →
      (content : List ℕ) × IfSome o (λ h. h ≡ content) × Stands content (Ok d)) [
        | None ↦ λ first. (v, tt, stands)
        | Some b ↦ λ first. (b, refl, cut_stands (FILE_BYTES + 1) b v (Ok d) refl first stands)
      ] first
  drawn name v (Err end) first stands = tt

  -- it is accepted where its station keeps the limits
  pub drawn_given : (origin : Origin) (d : Diagram) → Drawn held origin d → KeepsLimits d → Given held origin Drawing d
  drawn_given origin d (content, is, stands) keeps = (content, is, (stands, keeps))

  -- and refused where its station passes one
  pub drawn_fails : (before after : List ℕ → ℕ) (origin : Origin) (d : Diagram) (end : End) → Drawn held origin d →
      BuildFails d end → Fails held before after origin Drawing end
  drawn_fails before after origin d e.Memory drawing fails = tt
  drawn_fails before after origin d (e.Many part step) (content, is, stands) (station, past) =
      (content, is, record { diagram = d; stands = stands; station = station; past = past })
  drawn_fails before after origin d (e.Wide bay) (content, is, stands) (station, past) =
      (content, is, record { diagram = d; stands = stands; station = station; past = past })
  drawn_fails before after origin d end drawing fails = absurd fails
