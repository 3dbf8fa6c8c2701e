-- A new drawing that is held against an old one.
use Rattle.std.proofs.Common.{◌≡◌, ◌⊎◌, ℕ, List, Option, Result, Ok, Err, sym, subst, inl, inr}
use Rattle.std.specs.Prelude.{IfOk, IfErr}
use Rattle.station_graph.specs.Diagram.{Diagram}
use Rattle.release_compile.specs.Judging.{KeepsLimits}
use Rattle.interlock_cli.specs.Formats.{Drawing}
use Rattle.interlock_cli.specs.Form.{File, Fails, Gives, FormStops}
use Rattle.interlock_cli.specs.Judging.{Drawn, BuildFails}
use Rattle.interlock_cli.specs.CompareWrites.{CompareWrites}
use Rattle.interlock_cli.specs.Rests.{compare_rest}
use Rattle.interlock_cli.specs.declared.end.End.{End}
use Rattle.interlock_cli.specs.declared.end.End.TheVariants.{Memory}
use Rattle.interlock_cli.specs.declared.end.Output.{Output}
use Rattle.interlock_cli.proofs.Drawings.{drawn_given, drawn_fails}

module _ (held : List ℕ → Option (List ℕ)) (name : List ℕ) (d e : Diagram) (drawing : Drawn held (File name) e) where
  pub compare_gives : (r : Result Output End) → IfOk r (λ _. KeepsLimits e) →
      IfOk r (λ o. CompareWrites d e o.outcome o.text) → IfOk r (Gives (compare_rest name d) held)
  compare_gives (Ok output) keeps writes = (e, drawn_given held (File name) e drawing keeps, writes)
  compare_gives (Err end) keeps writes = tt

  pub compare_stops : (before after : List ℕ → ℕ) (r : Result Output End) →
      IfErr r (λ end. BuildFails e end ⊎ (end ≡ Memory)) → IfErr r (FormStops (compare_rest name d) held before after)
  compare_stops before after (Ok output) fails = tt
  compare_stops before after (Err end) (inl fails) =
      inl (drawn_fails held before after (File name) e end drawing fails)
  compare_stops before after (Err end) (inr is) =
      inl (subst (λ (x : End). Fails held before after (File name) Drawing x) (sym is) tt)
